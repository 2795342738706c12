-- Links stand in any order and a repeated word counts once, for the operations that are neither a scan nor a question: over two nets of which the same words are chosen the completion,
-- the clash test, the reason and the reason check do the same.
use Prim.Native.Nat.{ℕ, zero, suc, ◌+◌, ◌≤◌, ◌<◌}
use mathlib.Core.Path.{◌≡◌, refl, sym, ap, ◌∙◌}
use mathlib.Core.Bool.{Bool, true, false}
use mathlib.Core.List.{List, [], ◌∷◌, ◌++◌}
use mathlib.Core.Logic.{inl, inr}
use native.Mathlib.Omega.{arith}
use lib.Dec.{eqb, ltb}
use lib.ListN.{length, get_or, drop}
use lib.Seq.{ext_get_or}
use Rattle.std.specs.Prelude.{Err}
use Rattle.theory_laws.proofs.Booleans.{same_test}
use Rattle.theory.specs.Words.{Sign, is, isnt, sign_number, sign_at}
use Rattle.theory.specs.Nets.{Kind, Links, Net, AllIn}
use Rattle.theory.specs.Origins.{chosen}
use Rattle.theory.specs.Scans.{Scan, full_budget}
use Rattle.theory.specs.Completion.{full_marks, rows, complete}
use Rattle.theory.specs.Reasons.{Moves, up, across, down, goal, never}
use Rattle.theory.specs.Searches.{distances, reason_states}
use Rattle.theory.specs.Checks.{listed, all_steps, passes}
use Rattle.theory.proofs.reason.Best.{best_unique}
use Rattle.theory.proofs.reason.Distances.{distance_into, distance_unique, distances_length, distances_right}
use Rattle.theory.proofs.reason.Reason.{best_into, states_best}
use Rattle.theory.proofs.reason.Steps.{listed_exactly}
use Rattle.net.specs.Clauses.{call}
use Rattle.net.specs.Table.{bad_statement}
use Rattle.net.specs.declared.Refusal.{Refusal}
use Rattle.net.proofs.NetCheck.{net_is_checked}
use Rattle.net.proofs.OnNet.{gone_on}
use Rattle.clash.specs.Table.{ClashOutcome, clash_outcome, clash_nodes, first_clash, clash_search, clash_clauses, clash_done, clashed_by, Clashed}
use Rattle.completion.specs.Table.{CompletionOutcome, completion_outcome, completion_clauses, completion_done, completed_by}
use Rattle.completion.specs.declared.CompletionError.TheVariants as completed
use Rattle.reason.specs.Table.{ReasonOutcome, reason_outcome, filled, reason_of, found_clauses, found_done, reason_clauses, reason_done, reasoned}
use Rattle.reason.specs.declared.ReasonError.TheVariants as reasonedAs
use Rattle.reason_check.specs.Table.{check_clauses, check_done, verdict}
use Rattle.promises.specs.Engines.{Read}
use Rattle.promises.proofs.Tests.{chosen_of}
use Rattle.promises.proofs.Orders.{after_tests, rounds_same}
use Rattle.promises.proofs.Reasoning.{node_of, kind_of, near}

-- What a list of words links, and each move along a link, a list with those words has too.
module _ (ws vs : List ℕ) (to : AllIn ws vs) where
  links_into : (x y : ℕ) (s : Sign) → Links ws x y s → Links vs x y s
  links_into x y s l = record { it = l.it; listed = to l.it l.listed; tail = l.tail; head = l.head; sign = l.sign }

  moves_into : (n : ℕ) (s : Sign) (a b : ℕ) → Moves n (Links ws) s a b → Moves n (Links vs) s a b
  moves_into n s a b (up l) = up (links_into a b is l)
  moves_into n s a b (across c e (inl l)) = across c e (inl (links_into a c isnt l))
  moves_into n s a b (across c e (inr l)) = across c e (inr (links_into c a isnt l))
  moves_into n s a b (down c d p q l) = down c d p q (links_into d c is l)

module _ (o k : ℕ) (ws vs : List ℕ) (n : Net o k ws) (p : Net o k vs) (to : AllIn ws vs) (from : AllIn vs ws) where
  -- A full scan from a node leaves the same marks.
  pub full_same : (x : ℕ) → x < o + k → full_marks o k ws x ≡ full_marks o k vs x
  full_same x h = ap (λ (s : Scan). s.marks) (rounds_same o k ws vs n p to from x (full_budget (o + k)) h)

  -- So the rows of the completion are the same.
  rows_same : (x j : ℕ) → x + j ≤ o + k → rows o k ws x j ≡ rows o k vs x j
  unfolding rows
  rows_same x zero h = refl
  rows_same x (suc j) h = rw (full_same x (omega arith), rows_same (suc x) j (omega arith))

  pub complete_same : complete o k ws ≡ complete o k vs
  unfolding complete
  complete_same = rows_same 0 (o + k) (omega arith)

  -- So is the first clash.
  first_same : (x j : ℕ) → x + j ≤ o + k → first_clash o k ws x j ≡ first_clash o k vs x j
  unfolding first_clash
  first_same x zero h = refl
  first_same x (suc j) h = rw (full_same x (omega arith), first_same (suc x) j (omega arith))

  module _ (y : ℕ) (kind : Kind o k y) (s : Sign) where
    -- The scratch is the same: each place has one right value.
    pub distances_same : distances (o + k) s ws y ≡ distances (o + k) s vs y
    distances_same =
        ext_get_or never (distances (o + k) s ws y) (distances (o + k) s vs y) (distances_length (o + k) s ws y ∙ sym (distances_length (o + k) s vs y))
        (λ v h. distance_unique (Moves (o + k) (Links vs) s) (goal (o + k) s y) v _ _
        (distance_into (Moves (o + k) (Links ws) s) (Moves (o + k) (Links vs) s) (moves_into ws vs to (o + k) s) (moves_into vs ws from (o + k) s) (goal (o + k) s y) v _
        (distances_right o k ws n y kind s v (omega (arith, distances_length (o + k) s ws y))))
        (distances_right o k vs p y kind s v (omega (arith, distances_length (o + k) s ws y))))

    -- So are the states of a reason: there is one best route.
    pub states_same : (x : ℕ) → x < o + k → get_or (distances (o + k) s ws y) x never < never → reason_states (o + k) s ws x y ≡ reason_states (o + k) s vs x y
    states_same x node h =
        best_unique (Moves (o + k) (Links vs) s) (goal (o + k) s y) x _ _
        (best_into (Moves (o + k) (Links ws) s) (Moves (o + k) (Links vs) s) (moves_into ws vs to (o + k) s) (moves_into vs ws from (o + k) s) (goal (o + k) s y) x _
        (states_best o k ws n x node y kind s h))
        (states_best o k vs p x node y kind s (rw distances_same at h))

  -- Numbers 7, 8 and 0 over the distances t, where a is the reason.
  abbrev found : ℕ → List ℕ → List ℕ → List ℕ → List ℕ → ReasonOutcome
  found x t a past l = call (found_clauses x t a past l) (found_done a past l)

  -- A search over a good statement leaves the same.
  searched_same : (x y sign : ℕ) (d l : List ℕ) → bad_statement o (o + k) x y sign ≡ false
      → found x (distances (o + k) (sign_at sign) ws y) (reason_of ws x y sign (o + k)) (filled ws y sign d (o + k)) l
      ≡ found x (distances (o + k) (sign_at sign) vs y) (reason_of vs x y sign (o + k)) (filled vs y sign d (o + k)) l
  searched_same x y sign d l e =
      at (eqb (get_or (distances (o + k) (sign_at sign) ws y) x never) never) refl
      ∙ ap (λ (t : List ℕ). found x t (reason_of vs x y sign (o + k)) (t ++ drop ((o + k) + (o + k)) d) l) (distances_same y kind (sign_at sign))
    where
      node : x < o + k
      node = node_of o k x y sign e

      kind : Kind o k y
      kind = kind_of o k x y sign e

      at : (q : Bool) → eqb (get_or (distances (o + k) (sign_at sign) ws y) x never) never ≡ q
          → found x (distances (o + k) (sign_at sign) ws y) (reason_of ws x y sign (o + k)) (filled ws y sign d (o + k)) l
          ≡ found x (distances (o + k) (sign_at sign) ws y) (reason_of vs x y sign (o + k)) (filled ws y sign d (o + k)) l
      at true f = rw f
      at false f = rw (states_same y kind (sign_at sign) x node (near o k ws x y sign n node kind f))

  -- The tests of the reason check are the same: of one link, of all steps, of the list.
  pub listed_same : (x y : ℕ) (s : Sign) → listed x y (sign_number s) ws ≡ listed x y (sign_number s) vs
  listed_same x y s =
      same_test (listed x y (sign_number s) ws) (listed x y (sign_number s) vs)
      (λ e. (listed_exactly x y s vs).1 (links_into ws vs to x y s ((listed_exactly x y s ws).0 e)))
      (λ e. (listed_exactly x y s ws).1 (links_into vs ws from x y s ((listed_exactly x y s vs).0 e)))

  steps_same : (a i u : ℕ) (l : List ℕ) → all_steps o k ws a i u l ≡ all_steps o k vs a i u l
  unfolding all_steps
  steps_same a i u [] = refl
  steps_same a i u (v ∷ l) = rw (listed_same u v is, listed_same v u is, listed_same u v isnt, listed_same v u isnt, steps_same a (suc i) v l)

  passes_same : (x y : ℕ) (s : Sign) (l : List ℕ) → passes o k ws x y s l ≡ passes o k vs x y s l
  unfolding passes
  passes_same x y s [] = refl
  passes_same x y s (a ∷ []) = refl
  passes_same x y s (a ∷ b ∷ []) = refl
  passes_same x y s (a ∷ b ∷ u ∷ l) = rw (steps_same a 0 u l)

-- Two nets, each read with its set, of which the same words are chosen.
module _ (o k : ℕ) (ws : List ℕ) (set : ℕ) (vs : List ℕ) (set' : ℕ) (n : Read o k ws set) (p : Read o k vs set') (to : AllIn (chosen set ws) (chosen set' vs)) (from : AllIn (chosen set' vs) (chosen set ws)) where
  abbrev left : List ℕ
  left = chosen set ws

  abbrev right : List ℕ
  right = chosen set' vs

  ln : Net o k left
  ln = chosen_of o k ws set n

  rn : Net o k right
  rn = chosen_of o k vs set' p

  -- The completion.
  pub completion_order : (m l : List ℕ) → completed_by o k ws set m l ≡ completed_by o k vs set' m l
  completion_order m l =
      let refused : Refusal → CompletionOutcome = λ r. completion_outcome (Err (completed.Refused r)) m l in
      sym (gone_on refused o k ws set (completion_clauses (complete o k left) m l) (completion_done (complete o k left) m l) (net_is_checked o k ws set n.allowed n.net) refl)
      ∙ ap (λ (all : List ℕ). call (completion_clauses all m l (o + k)) (completion_done all m l (o + k))) (complete_same o k left right ln rn to from)
      ∙ gone_on refused o k vs set' (completion_clauses (complete o k right) m l) (completion_done (complete o k right) m l) (net_is_checked o k vs set' p.allowed p.net) refl

  -- The clash test.
  pub clash_order : (m : List ℕ) → clashed_by o k ws set m ≡ clashed_by o k vs set' m
  clash_order m =
      let refused : Refusal → ClashOutcome = λ r. clash_outcome (Err r) m in
      sym (gone_on refused o k ws set (clash_clauses (clash_search o k left) m) (clash_done (clash_search o k left) m) (net_is_checked o k ws set n.allowed n.net) refl)
      ∙ ap (λ (found : Clashed). call (clash_clauses found m (o + k)) (clash_done found m (o + k))) (first_same o k left right ln rn to from 0 (clash_nodes o k) (omega arith))
      ∙ gone_on refused o k vs set' (clash_clauses (clash_search o k right) m) (clash_done (clash_search o k right) m) (net_is_checked o k vs set' p.allowed p.net) refl

  -- The reason.
  pub reason_order : (x y sign : ℕ) (d l : List ℕ) → reasoned o k ws set x y sign d l ≡ reasoned o k vs set' x y sign d l
  reason_order x y sign d l =
      let refused : Refusal → ReasonOutcome = λ r. reason_outcome (Err (reasonedAs.Refused r)) d l in
      sym (gone_on refused o k ws set (reason_clauses o left x y sign d l) (reason_done left x y sign d l) (net_is_checked o k ws set n.allowed n.net) refl)
      ∙ after_tests (bad_statement o (o + k) x y sign) (ltb (length d) ((o + k) + (o + k))) _ _ (searched_same o k left right ln rn to from x y sign d l)
      ∙ gone_on refused o k vs set' (reason_clauses o right x y sign d l) (reason_done right x y sign d l) (net_is_checked o k vs set' p.allowed p.net) refl

  -- The reason check.
  pub check_order : (x y sign : ℕ) (l : List ℕ) → verdict o k ws set x y sign l ≡ verdict o k vs set' x y sign l
  check_order x y sign l =
      sym (gone_on Err o k ws set (check_clauses o x y sign) (λ _. check_done o k left x y sign l) (net_is_checked o k ws set n.allowed n.net) refl)
      ∙ rw (passes_same o k left right ln rn to from x y (sign_at sign) l)
      (gone_on Err o k vs set' (check_clauses o x y sign) (λ _. check_done o k right x y sign l) (net_is_checked o k vs set' p.allowed p.net) refl)
