-- Links stand in any order and a repeated word counts once: over two nets of which the same words are chosen the proof and the proof check do the same.
use Prim.Native.Nat.{ℕ, zero, suc, ◌+◌, ◌-◌, ◌*◌, ◌/◌, ◌<◌}
use mathlib.Core.Path.{◌≡◌, refl, sym, ap, ◌∙◌}
use mathlib.Core.Bool.{Bool, true, false, cond, ◌&&◌, ◌||◌}
use mathlib.Core.List.{List, [], ◌∷◌, ◌++◌}
use lib.Dec.{eqb, ltb, leb}
use lib.ListN.{length, get_or, drop}
use Rattle.std.specs.Prelude.{Err}
use Rattle.theory_laws.proofs.Booleans.{same_test}
use Rattle.theory.specs.Words.{Sign, isnt, word, sign_at}
use Rattle.theory.specs.Nets.{Kind, Net, AllIn}
use Rattle.theory.specs.Origins.{chosen}
use Rattle.theory.specs.Reasons.{never}
use Rattle.theory.specs.Searches.{reason_list}
use Rattle.theory.specs.ProofFiles.{depth_limit, list_limit}
use Rattle.net.specs.Clauses.{clause, call}
use Rattle.net.specs.Table.{bad_statement}
use Rattle.net.specs.declared.Refusal.{Refusal}
use Rattle.net.specs.declared.Refusal.TheVariants.{BadQuestion}
use Rattle.net.proofs.NetCheck.{net_is_checked}
use Rattle.net.proofs.OnNet.{gone_on}
use Rattle.reason.specs.Table.{filled, reason_of}
use Rattle.proof_form.specs.Checker.{stands_in, asks, fits, Walk, main_premise, premises, sequent, closing, check_proof}
use Rattle.proof_form.specs.Ours.{our_depth}
use Rattle.proof_form.specs.FromReason.{hop_at, hops_from, from_reason}
use Rattle.proof_form.specs.declared.Asks.{Asks}
use Rattle.proof_form.specs.declared.Asks.TheVariants.{Broken, Nothing, One, Two}
use Rattle.proof_form.specs.declared.Walked.{Walked}
use Rattle.proof_form.specs.declared.Walked.TheVariants.{Upto, Fault, Cut}
use Rattle.proof_form.specs.declared.Found.{Found}
use Rattle.proof_form.specs.declared.Found.TheVariants.{Nowhere}
use Rattle.proof_form.proofs.Tests.{decides_stands}
use Rattle.proof.specs.Table.{ProofOutcome, proof_outcome, links_of, proof_of, room_clauses, room_done, proof_clauses, proof_done, proved}
use Rattle.proof.specs.declared.ProofError.TheVariants as provedAs
use Rattle.proof_check.specs.Table.{fault_clause, judged_clauses, judged_done, judged}
use Rattle.proof_check.specs.declared.JudgeError.TheVariants as judgedAs
use Rattle.promises.specs.Engines.{Read}
use Rattle.promises.proofs.Tests.{chosen_of}
use Rattle.promises.proofs.Orders.{after_tests}
use Rattle.promises.proofs.Reasoning.{node_of, kind_of, near}
use Rattle.promises.proofs.Reordered.{distances_same, states_same}

-- The same after a test, where it is the same if the test does not apply.
after_test : {A : Type 0} (a : Bool) (u : A) {r q : A} → (a ≡ false → r ≡ q) → cond a u r ≡ cond a u q
after_test true u e = refl
after_test false u e = e refl

-- Premises that are walked in the same way.
module _ (l : List ℕ) (b : ℕ) (f h : Walk) (same : (A : List ℕ) (g i j : ℕ) (t : Bool) → f A g i j t ≡ h A g i j t) where
  main_same : (A : List ℕ) (g i j : ℕ) (z : Walked) → main_premise l b f A g i j z ≡ main_premise l b h A g i j z
  unfolding main_premise
  main_same A g i j (Upto e m t) = same A g e m (t && fits l b j i e)
  main_same A g i j (Fault e) = refl
  main_same A g i j Cut = refl

  premises_same : (A : List ℕ) (g i j : ℕ) (t : Bool) (z : Asks) → premises l b f A g i j t z ≡ premises l b h A g i j t z
  unfolding premises
  premises_same A g i j t Broken = refl
  premises_same A g i j t Nothing = refl
  premises_same A g i j t (One w q) = same (w ∷ A) q (suc i) j t
  premises_same A g i j t (Two q w) =
      ap (main_premise l b f (w ∷ A) g (suc i) j) (same A q (suc i) (suc j) t) ∙ main_same (w ∷ A) g (suc i) j (h A q (suc i) (suc j) t)

module _ (ws vs : List ℕ) (to : AllIn ws vs) (from : AllIn vs ws) where
  -- The same words stand in both lists.
  stands_same : (w : ℕ) → stands_in w ws ≡ stands_in w vs
  stands_same w =
      same_test (stands_in w ws) (stands_in w vs) (λ e. (decides_stands w vs).1 (to w ((decides_stands w ws).0 e))) (λ e. (decides_stands w ws).1 (from w ((decides_stands w vs).0 e)))

  -- So our list from one reason is the same: the words decide only which of two crossings is taken.
  hop_same : (p : List ℕ) (i : ℕ) → hop_at ws p i ≡ hop_at vs p i
  hop_same p i = rw (stands_same (word (get_or p (i + 2) 0) (get_or p (i + 3) 0) isnt))

  hops_same : (p : List ℕ) (i m : ℕ) → hops_from ws p i m ≡ hops_from vs p i m
  unfolding hops_from
  hops_same p i zero = refl
  hops_same p i (suc m) = ap (λ h. h ∷ hops_from ws p (suc i) m) (hop_same p i) ∙ ap (λ hs. hop_at vs p i ∷ hs) (hops_same p (suc i) m)

  file_same : (o n x y : ℕ) (s : Sign) (p : List ℕ) (m : ℕ) → from_reason o n ws x y s p m ≡ from_reason o n vs x y s p m
  unfolding from_reason
  file_same o n x y s p m = rw (hops_same p 1 (m - 1), hops_same p 0 m)

  -- And the walk over a list is the same.
  module _ (o n : ℕ) where
    asks_same : (A : List ℕ) (g r a w : ℕ) → asks o n ws A g r a w ≡ asks o n vs A g r a w
    unfolding asks
    asks_same A g r a w = rw (stands_same g, stands_same w)

    sequent_same : (l : List ℕ) (b d : ℕ) (A : List ℕ) (g i j : ℕ) (t : Bool) → sequent o n ws l b d A g i j t ≡ sequent o n vs l b d A g i j t
    unfolding sequent
    sequent_same l b zero A g i j t = refl
    sequent_same l b (suc d) A g i j t =
        ap (λ (z : Walked). cond (leb ((length l - b) / 3) i) Cut z)
        (ap (premises l b (sequent o n ws l b d) A g i j t) (asks_same A g (get_or l (b + 3 * i) 0) (get_or l (b + 3 * i + 1) 0) (get_or l (b + 3 * i + 2) 0))
        ∙ premises_same l b (sequent o n ws l b d) (sequent o n vs l b d) (sequent_same l b d) A g i j t
        (asks o n vs A g (get_or l (b + 3 * i) 0) (get_or l (b + 3 * i + 1) 0) (get_or l (b + 3 * i + 2) 0)))

    checked_same : (g : ℕ) (l : List ℕ) → check_proof o n ws g l ≡ check_proof o n vs g l
    unfolding check_proof
    checked_same g [] = refl
    checked_same g (m ∷ l) =
        ap (λ (z : Walked). cond (ltb list_limit (length (m ∷ l))) Nowhere (cond (eqb m 0 || ltb (length (m ∷ l)) (suc (2 * m))) Nowhere (closing (m ∷ l) m (suc (2 * m)) z)))
        (sequent_same (m ∷ l) (suc (2 * m)) depth_limit [] g 0 1 true)

module _ (o k : ℕ) (ws vs : List ℕ) (wn : Net o k ws) (vn : Net o k vs) (to : AllIn ws vs) (from : AllIn vs ws) where
  -- Numbers 7, 11, 8 and 0 of a reason with so many links, where `all` is the proof.
  abbrev searched : ℕ → ℕ → List ℕ → List ℕ → List ℕ → ProofOutcome
  searched x links all past l =
      call (clause 7 (eqb links never) (proof_outcome (Err provedAs.Unsupported) past l) ∷ room_clauses (our_depth o x links) all past l) (room_done all past l)

  module _ (x y sign : ℕ) (d l : List ℕ) (e : bad_statement o (o + k) x y sign ≡ false) where
    abbrev links : ℕ
    links = links_of ws x y sign (o + k)

    abbrev past : List ℕ
    past = filled ws y sign d (o + k)

    node : x < o + k
    node = node_of o k x y sign e

    kind : Kind o k y
    kind = kind_of o k x y sign e

    -- Our proof is the same, since the reason is.
    ours_same : eqb links never ≡ false → proof_of o ws x y sign (o + k) ≡ from_reason o (o + k) vs x y (sign_at sign) (reason_of vs x y sign (o + k)) links
    ours_same f =
        file_same ws vs to from o (o + k) x y (sign_at sign) (reason_of ws x y sign (o + k)) links
        ∙ ap (λ (states : List ℕ). from_reason o (o + k) vs x y (sign_at sign) (reason_list (o + k) x states) links)
        (states_same o k ws vs wn vn to from y kind (sign_at sign) x node (near o k ws x y sign wn node kind f))

    -- A search over a good statement leaves the same.
    written_same : searched x links (proof_of o ws x y sign (o + k)) past l
        ≡ searched x (links_of vs x y sign (o + k)) (proof_of o vs x y sign (o + k)) (filled vs y sign d (o + k)) l
    written_same =
        after_test (eqb links never) (proof_outcome (Err provedAs.Unsupported) past l) (λ f. ap (λ (all : List ℕ). call (room_clauses (our_depth o x links) all past l) (room_done all past l)) (ours_same f))
        ∙ ap (λ (t : List ℕ). searched x (get_or t x never) (from_reason o (o + k) vs x y (sign_at sign) (reason_of vs x y sign (o + k)) (get_or t x never)) (t ++ drop ((o + k) + (o + k)) d) l)
        (distances_same o k ws vs wn vn to from y kind (sign_at sign))

-- Two nets, each read with its set, of which the same words are chosen.
module _ (o k : ℕ) (ws : List ℕ) (set : ℕ) (vs : List ℕ) (set' : ℕ) (n : Read o k ws set) (p : Read o k vs set') (to : AllIn (chosen set ws) (chosen set' vs)) (from : AllIn (chosen set' vs) (chosen set ws)) where
  pub proof_order : (x y sign : ℕ) (d l : List ℕ) → proved o k ws set x y sign d l ≡ proved o k vs set' x y sign d l
  proof_order x y sign d l =
      let refused : Refusal → ProofOutcome = λ r. proof_outcome (Err (provedAs.Refused r)) d l in
      sym (gone_on refused o k ws set (proof_clauses o (chosen set ws) x y sign d l) (proof_done o (chosen set ws) x y sign d l) (net_is_checked o k ws set n.allowed n.net) refl)
      ∙ after_tests (bad_statement o (o + k) x y sign) (ltb (length d) ((o + k) + (o + k))) _ _
      (written_same o k (chosen set ws) (chosen set' vs) (chosen_of o k ws set n) (chosen_of o k vs set' p) to from x y sign d l)
      ∙ gone_on refused o k vs set' (proof_clauses o (chosen set' vs) x y sign d l) (proof_done o (chosen set' vs) x y sign d l) (net_is_checked o k vs set' p.allowed p.net) refl

  pub proof_check_order : (x y sign : ℕ) (l : List ℕ) → judged o k ws set x y sign l ≡ judged o k vs set' x y sign l
  proof_check_order x y sign l =
      sym (gone_on (λ r. Err (judgedAs.Refused r)) o k ws set (judged_clauses o (chosen set ws) x y sign l) (λ _. judged_done) (net_is_checked o k ws set n.allowed n.net) refl)
      ∙ ap (λ (z : Found). call (clause 4 (bad_statement o (o + k) x y sign) (Err (judgedAs.Refused BadQuestion)) ∷ fault_clause z ∷ []) judged_done)
      (checked_same (chosen set ws) (chosen set' vs) to from o (o + k) (word x y (sign_at sign)) l)
      ∙ gone_on (λ r. Err (judgedAs.Refused r)) o k vs set' (judged_clauses o (chosen set' vs) x y sign l) (λ _. judged_done) (net_is_checked o k vs set' p.allowed p.net) refl
