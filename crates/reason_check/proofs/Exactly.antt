-- What each verdict means: which lists hold and which fail, and when number 4 or a refusal of the net is given.
use Rattle.std.specs.Prelude.{Err, Ok}
use Prim.Native.Nat.{ℕ, ◌+◌, ◌<◌, ◌≤◌}
use mathlib.Core.Path.{◌≡◌, refl, sym, ◌∙◌}
use mathlib.Core.Bool.{Bool, true, false, cond}
use mathlib.Core.List.{List}
use mathlib.Core.Logic.{◌⊎◌, inl, inr, ◌↔◌, ⊎_elim}
use native.Mathlib.Omega.{arith}
use lib.ListN.{get_or}
use Rattle.theory_laws.proofs.Booleans.{contradiction, not_so}
use Rattle.theory_laws.proofs.Deciding.{decides_not}
use Rattle.theory.specs.Words.{sign_at}
use Rattle.theory.specs.Nets.{Links}
use Rattle.theory.specs.Origins.{set_limit, chosen, NetFrom}
use Rattle.theory.specs.Support.{Supported}
use Rattle.theory.specs.Reasons.{written, never}
use Rattle.theory.specs.Searches.{distances, reason_states, reason_list}
use Rattle.theory.specs.Checks.{Passes, passes}
use Rattle.theory.proofs.Legal.{legal_links}
use Rattle.theory.proofs.origins.Statements.{chosen_net}
use Rattle.theory.proofs.support.Lemma1.{lemma1}
use Rattle.theory.proofs.reason.Check.{passes_exactly, passes_supported, reason_passes}
use Rattle.net.specs.Table.{check_net, bad_statement, Checked}
use Rattle.net.specs.Good.{GoodStatement}
use Rattle.net.specs.declared.Refusal.{Refusal}
use Rattle.net.specs.declared.Refusal.TheVariants.{BadQuestion}
use Rattle.net.proofs.NetCheck.{nodes_exactly}
use Rattle.net.proofs.OnNet.{passed_on, gone_on}
use Rattle.net.proofs.Good.{good_statement, good_kind}
use Rattle.reason_check.specs.Table.{check_clauses, check_done, verdict, Verdict}

-- The verdict on a net, by its two tests.
abbrev judged : Bool → Bool → Verdict
judged bad good = cond bad (Err BadQuestion) (Ok good)

judged_ok : (b p q : Bool) → judged b p ≡ Ok q → (b ≡ false) × (p ≡ q)
judged_ok true p q e = let z : ◌≡◌ {A = ℕ} 0 1 = cc in absurd (omega arith)
judged_ok false p q e = (refl, cc)

judged_refused : (b p : Bool) (r : Refusal) → judged b p ≡ Err r → (b ≡ true) × (r ≡ BadQuestion)
judged_refused true p r e = (refl, cc)
judged_refused false p r e = let z : ◌≡◌ {A = ℕ} 0 1 = cc in absurd (omega arith)

-- The check of a net accepts these words with this set.
abbrev pub Accepted : ℕ → ℕ → List ℕ → ℕ → Type 0
Accepted o k ws set = (set ≤ set_limit) × NetFrom o k ws

module _ (o k : ℕ) (ws : List ℕ) (set x y sign : ℕ) (l : List ℕ) where
  bad : Bool
  bad = bad_statement o (o + k) x y sign

  good : Bool
  good = passes o k (chosen set ws) x y (sign_at sign) l

  judged_accepted : Accepted o k ws set → judged bad good ≡ verdict o k ws set x y sign l
  unfolding bad good
  judged_accepted net =
      gone_on Err o k ws set (check_clauses o x y sign) (λ _. check_done o k (chosen set ws) x y sign l) ((nodes_exactly o k ws set (o + k)).1 (refl, net.0, net.1)) refl

  on_refusal : {r : Refusal} → check_net o k ws set ≡ Err r → Err r ≡ verdict o k ws set x y sign l
  on_refusal e = passed_on Err o k ws set (check_clauses o x y sign) (λ _. check_done o k (chosen set ws) x y sign l) e

  -- The check of the net accepts it, or its refusal is the verdict.
  data Case : Type 0 where
    accepted : Accepted o k ws set → judged bad good ≡ verdict o k ws set x y sign l → Case
    refused : (r : Refusal) → check_net o k ws set ≡ Err r → Err r ≡ verdict o k ws set x y sign l → Case

  cases : (c : Checked) → check_net o k ws set ≡ c → Case
  cases (Ok n) e =
      let g = (nodes_exactly o k ws set n).0 e in
      accepted (g.1, g.2) (judged_accepted (g.1, g.2))
  cases (Err r) e = refused r e (on_refusal e)

  asked : bad ≡ false → GoodStatement o (o + k) x y sign
  unfolding bad
  asked = (good_statement o (o + k) x y sign).0

  is_asked : GoodStatement o (o + k) x y sign → bad ≡ false
  unfolding bad
  is_asked = (good_statement o (o + k) x y sign).1

  tested : GoodStatement o (o + k) x y sign → (good ≡ true) ↔ Passes o k (chosen set ws) x y (sign_at sign) l
  unfolding good
  tested a = passes_exactly o k (chosen set ws) x y (sign_at sign) l (good_kind a.pair)

  -- The list holds exactly if net and set are accepted, the statement may be asked, and the list is a path of chosen words that shows it.
  pub holds_exactly : (verdict o k ws set x y sign l ≡ Ok true)
      ↔ (Accepted o k ws set × GoodStatement o (o + k) x y sign × Passes o k (chosen set ws) x y (sign_at sign) l)
  holds_exactly = (at (cases (check_net o k ws set) refl), back)
    where
      at : Case → verdict o k ws set x y sign l ≡ Ok true → Accepted o k ws set × GoodStatement o (o + k) x y sign × Passes o k (chosen set ws) x y (sign_at sign) l
      at (accepted net j) e =
          let (b, g) = judged_ok bad good true (j ∙ e) in
          let a = asked b in
          (net, a, (tested a).0 g)
      at (refused r f j) e = let z : ◌≡◌ {A = ℕ} 0 1 = cc in absurd (omega arith)

      back : Accepted o k ws set × GoodStatement o (o + k) x y sign × Passes o k (chosen set ws) x y (sign_at sign) l → verdict o k ws set x y sign l ≡ Ok true
      back h = sym (judged_accepted h.0) ∙ rw (is_asked h.1, (tested h.1).1 h.2)

  -- It fails exactly if net and set are accepted, the statement may be asked, and the list is no such path.
  pub fails_exactly : (verdict o k ws set x y sign l ≡ Ok false)
      ↔ (Accepted o k ws set × GoodStatement o (o + k) x y sign × (Passes o k (chosen set ws) x y (sign_at sign) l → ⊥))
  fails_exactly = (at (cases (check_net o k ws set) refl), back)
    where
      at : Case → verdict o k ws set x y sign l ≡ Ok false → Accepted o k ws set × GoodStatement o (o + k) x y sign × (Passes o k (chosen set ws) x y (sign_at sign) l → ⊥)
      at (accepted net j) e =
          let (b, g) = judged_ok bad good false (j ∙ e) in
          let a = asked b in
          (net, a, λ p. contradiction (sym g ∙ (tested a).1 p))
      at (refused r f j) e = let z : ◌≡◌ {A = ℕ} 0 1 = cc in absurd (omega arith)

      back : Accepted o k ws set × GoodStatement o (o + k) x y sign × (Passes o k (chosen set ws) x y (sign_at sign) l → ⊥) → verdict o k ws set x y sign l ≡ Ok false
      back h =
          let f : good ≡ false = not_so good (λ (g : good ≡ true). h.2 ((tested h.1).0 g)) in
          sym (judged_accepted h.0) ∙ rw (is_asked h.1, f)

  -- It is refused exactly as the net is, or by number 4 where the statement may not be asked of an accepted net.
  pub refused_exactly : (r : Refusal)
      → (verdict o k ws set x y sign l ≡ Err r)
      ↔ ((check_net o k ws set ≡ Err r) ⊎ (Accepted o k ws set × (GoodStatement o (o + k) x y sign → ⊥) × (r ≡ BadQuestion)))
  refused_exactly r = (at (cases (check_net o k ws set) refl), ⊎_elim (λ e. sym (on_refusal e)) on_question)
    where
      at : Case → verdict o k ws set x y sign l ≡ Err r
          → (check_net o k ws set ≡ Err r) ⊎ (Accepted o k ws set × (GoodStatement o (o + k) x y sign → ⊥) × (r ≡ BadQuestion))
      at (accepted net j) e =
          let (b, f) = judged_refused bad good r (j ∙ e) in
          inr (net, (λ a. contradiction (sym (is_asked a) ∙ b)), f)
      at (refused q f j) e =
          let same : q ≡ r = cc in
          inl (rw same at f)

      on_question : Accepted o k ws set × (GoodStatement o (o + k) x y sign → ⊥) × (r ≡ BadQuestion) → verdict o k ws set x y sign l ≡ Err r
      on_question h =
          let b : bad ≡ true = (decides_not bad (asked, is_asked)).1 h.1 in
          sym (judged_accepted h.0) ∙ rw (b, h.2)

  -- What holds is supported by the chosen words.
  pub holds_supported : verdict o k ws set x y sign l ≡ Ok true → Supported o k (Links (chosen set ws)) x y (sign_at sign)
  holds_supported e =
      let (net, a, p) = holds_exactly.0 e in
      passes_supported o k (chosen set ws) x y (sign_at sign) l (chosen_net set o k ws net.1).legal p

-- Of what may be asked, what is supported has a list that holds, and a reason that is found is one.
module _ (o k : ℕ) (ws : List ℕ) (set : ℕ) (net : Accepted o k ws set) (x y sign : ℕ) (may : GoodStatement o (o + k) x y sign) where
  pub some_list_exactly : Supported o k (Links (chosen set ws)) x y (sign_at sign) ↔ ((l : List ℕ) × (verdict o k ws set x y sign l ≡ Ok true))
  some_list_exactly = (some_list, λ h. holds_supported o k ws set x y sign h.0 h.1)
    where
      some_list : Supported o k (Links (chosen set ws)) x y (sign_at sign) → (l : List ℕ) × (verdict o k ws set x y sign l ≡ Ok true)
      some_list s =
          let (xs, ys, p) = (lemma1 o k (Links (chosen set ws)) (legal_links o k (chosen set ws) (chosen_net set o k ws net.1).legal) x y (sign_at sign)).0 s in (
            written x xs ys,
            (holds_exactly o k ws set x y sign (written x xs ys)).1 (net, may, record { first = xs; second = ys; form = refl; shows = p }),
          )

  pub reason_holds : get_or (distances (o + k) (sign_at sign) (chosen set ws) y) x never < never
      → verdict o k ws set x y sign (reason_list (o + k) x (reason_states (o + k) (sign_at sign) (chosen set ws) x y)) ≡ Ok true
  reason_holds h =
      let l = reason_list (o + k) x (reason_states (o + k) (sign_at sign) (chosen set ws) x y) in
      let p = reason_passes o k (chosen set ws) (chosen_net set o k ws net.1) x may.pair.node y (good_kind may.pair) (sign_at sign) h in
      (holds_exactly o k ws set x y sign l).1 (net, may, (passes_exactly o k (chosen set ws) x y (sign_at sign) l (good_kind may.pair)).0 p)
