-- Which answer is given exactly when: the list proves the statement, a step of it is the first at fault, or neither.
use Rattle.proof_check.specs.declared.JudgeError.TheVariants.{Faulty, Refused}
use Rattle.std.specs.Prelude.{Err, Ok}
use Prim.Native.Nat.{ℕ, ◌+◌, ◌≤◌, ◌<◌}
use mathlib.Core.Path.{◌≡◌, refl, sym, ◌∙◌}
use mathlib.Core.Bool.{Bool, true, false, cond, not}
use mathlib.Core.List.{List}
use mathlib.Core.Logic.{◌⊎◌, inl, inr, ⊎_elim, ◌↔◌}
use native.Mathlib.Omega.{arith}
use Rattle.theory_laws.proofs.Booleans.{contradiction}
use Rattle.theory_laws.proofs.Deciding.{decides_not}
use Rattle.theory.specs.Words.{sign_at, word}
use Rattle.theory.specs.Nets.{Links}
use Rattle.theory.specs.Origins.{set_limit, chosen, NetFrom}
use Rattle.theory.specs.Support.{Supported}
use Rattle.theory.specs.ProofFiles.{Proves, FaultAt}
use Rattle.theory.proofs.origins.Statements.{chosen_net}
use Rattle.theory.proofs.sequent.Measures.{fault_small}
use Rattle.theory.proofs.sequent.Sound.{sound}
use Rattle.net.specs.Table.{check_net, bad_statement}
use Rattle.net.specs.Good.{GoodStatement}
use Rattle.net.specs.declared.Refusal.{Refusal}
use Rattle.net.specs.declared.Refusal.TheVariants.{BadQuestion}
use Rattle.net.specs.Table.{Checked}
use Rattle.net.proofs.NetCheck.{nodes_exactly}
use Rattle.net.proofs.OnNet.{passed_on, gone_on}
use Rattle.net.proofs.Good.{good_statement, good_kind}
use Rattle.proof_form.specs.Checker.{check_proof}
use Rattle.proof_form.specs.declared.Found.{Found}
use Rattle.proof_form.specs.declared.Found.TheVariants.{Right, At, Nowhere}
use Rattle.proof_form.proofs.Accepted.{accepted_exactly, fault_exactly, nowhere_exactly}
use Rattle.proof_check.specs.Table.{no_step, is_right, fault_step, judged_clauses, judged_done, judged}
use Rattle.proof_check.specs.Table.{Judged}

-- The answer on a net, by its test and what was found.
abbrev by_tests : Bool → Found → Judged
by_tests bad z = cond bad (Err (Refused BadQuestion)) (cond (not (is_right z)) (Err (Faulty (fault_step z))) (Ok tt))

tests_accepted : (b : Bool) (z : Found) → by_tests b z ≡ Ok tt → (b ≡ false) × (z ≡ Right)
tests_accepted true z e = let c : ◌≡◌ {A = ℕ} 0 1 = cc in absurd (omega arith)
tests_accepted false Right e = (refl, refl)
tests_accepted false (At i) e = let c : ◌≡◌ {A = ℕ} 0 1 = cc in absurd (omega arith)
tests_accepted false Nowhere e = let c : ◌≡◌ {A = ℕ} 0 1 = cc in absurd (omega arith)

tests_faulty : (b : Bool) (z : Found) (i : ℕ) → by_tests b z ≡ Err (Faulty i) → (b ≡ false) × ((z ≡ At i) ⊎ ((z ≡ Nowhere) × (i ≡ no_step)))
tests_faulty true z i e = let c : ◌≡◌ {A = ℕ} 0 1 = cc in absurd (omega arith)
tests_faulty false Right i e = let c : ◌≡◌ {A = ℕ} 0 1 = cc in absurd (omega arith)
tests_faulty false (At j) i e = let c : j ≡ i = cc in (refl, inl (rw c))
tests_faulty false Nowhere i e = (refl, inr (refl, cc))

tests_refused : (b : Bool) (z : Found) (r : Refusal) → by_tests b z ≡ Err (Refused r) → (b ≡ true) × (r ≡ BadQuestion)
tests_refused true z r e = (refl, cc)
tests_refused false Right r e = let c : ◌≡◌ {A = ℕ} 0 1 = cc in absurd (omega arith)
tests_refused false (At i) r e = let c : ◌≡◌ {A = ℕ} 0 1 = cc in absurd (omega arith)
tests_refused false Nowhere r e = let c : ◌≡◌ {A = ℕ} 0 1 = cc in absurd (omega arith)

-- The check of a net lets these words pass with this set.
abbrev pub Admitted : ℕ → ℕ → List ℕ → ℕ → Type 0
Admitted o k ws set = (set ≤ set_limit) × NetFrom o k ws

module _ (o k : ℕ) (ws : List ℕ) (set x y sign : ℕ) (l : List ℕ) where
  bad : Bool
  bad = bad_statement o (o + k) x y sign

  found : Found
  found = check_proof o (o + k) (chosen set ws) (word x y (sign_at sign)) l

  judged_admitted : Admitted o k ws set → by_tests bad found ≡ judged o k ws set x y sign l
  unfolding bad found
  judged_admitted net =
      gone_on (λ r. Err (Refused r)) o k ws set (judged_clauses o (chosen set ws) x y sign l) (λ _. judged_done) ((nodes_exactly o k ws set (o + k)).1 (refl, net.0, net.1)) refl

  on_refusal : {r : Refusal} → check_net o k ws set ≡ Err r → Err (Refused r) ≡ judged o k ws set x y sign l
  on_refusal e = passed_on (λ r. Err (Refused r)) o k ws set (judged_clauses o (chosen set ws) x y sign l) (λ _. judged_done) e

  -- The check of the net lets it pass, or its refusal is the answer.
  data Case : Type 0 where
    admitted : Admitted o k ws set → by_tests bad found ≡ judged o k ws set x y sign l → Case
    refused : (r : Refusal) → check_net o k ws set ≡ Err r → Err (Refused r) ≡ judged o k ws set x y sign l → Case

  cases : (c : Checked) → check_net o k ws set ≡ c → Case
  cases (Ok n) e = let g = (nodes_exactly o k ws set n).0 e in admitted (g.1, g.2) (judged_admitted (g.1, g.2))
  cases (Err r) e = refused r e (on_refusal e)

  asked : bad ≡ false → GoodStatement o (o + k) x y sign
  unfolding bad
  asked = (good_statement o (o + k) x y sign).0

  is_asked : GoodStatement o (o + k) x y sign → bad ≡ false
  unfolding bad
  is_asked = (good_statement o (o + k) x y sign).1

  module _ (net : Admitted o k ws set) (may : GoodStatement o (o + k) x y sign) where
    right_exactly : (found ≡ Right) ↔ Proves o k (chosen set ws) x y (sign_at sign) l
    unfolding found
    right_exactly = accepted_exactly o k (chosen set ws) (chosen_net set o k ws net.1) x y (sign_at sign) (good_kind may.pair) l

    at_exactly : (i : ℕ) → (found ≡ At i) ↔ FaultAt o k (chosen set ws) x y (sign_at sign) l i
    unfolding found
    at_exactly = fault_exactly o k (chosen set ws) (chosen_net set o k ws net.1) x y (sign_at sign) (good_kind may.pair) l

    none_exactly : (found ≡ Nowhere) ↔ ((Proves o k (chosen set ws) x y (sign_at sign) l → ⊥) × ((i : ℕ) → FaultAt o k (chosen set ws) x y (sign_at sign) l i → ⊥))
    unfolding found
    none_exactly = nowhere_exactly o k (chosen set ws) (chosen_net set o k ws net.1) x y (sign_at sign) (good_kind may.pair) l

  -- The list is accepted exactly if net and set are admitted, the statement may be asked, and the list proves it from the chosen words.
  pub judged_exactly : (judged o k ws set x y sign l ≡ Ok tt)
      ↔ (Admitted o k ws set × GoodStatement o (o + k) x y sign × Proves o k (chosen set ws) x y (sign_at sign) l)
  judged_exactly = (at (cases (check_net o k ws set) refl), back)
    where
      at : Case → judged o k ws set x y sign l ≡ Ok tt → Admitted o k ws set × GoodStatement o (o + k) x y sign × Proves o k (chosen set ws) x y (sign_at sign) l
      at (admitted net j) e =
          let (b, z) = tests_accepted bad found (j ∙ e) in
          let may = asked b in
          (net, may, (right_exactly net may).0 z)
      at (refused r f j) e = let c : ◌≡◌ {A = ℕ} 0 1 = cc in absurd (omega arith)

      back : Admitted o k ws set × GoodStatement o (o + k) x y sign × Proves o k (chosen set ws) x y (sign_at sign) l → judged o k ws set x y sign l ≡ Ok tt
      back h = sym (judged_admitted h.0) ∙ rw (is_asked h.1, (right_exactly h.0 h.1).1 h.2)

  -- A step is given exactly if net and set are admitted, the statement may be asked, and it is the first step at fault.
  pub faulty_exactly : (i : ℕ) → i < no_step
      → (judged o k ws set x y sign l ≡ Err (Faulty i)) ↔ (Admitted o k ws set × GoodStatement o (o + k) x y sign × FaultAt o k (chosen set ws) x y (sign_at sign) l i)
  faulty_exactly i h = (at (cases (check_net o k ws set) refl), back)
    where
      step : (found ≡ At i) ⊎ ((found ≡ Nowhere) × (i ≡ no_step)) → found ≡ At i
      step (inl z) = z
      step (inr z) = let e = z.1 in absurd (omega (arith, h, e))

      at : Case → judged o k ws set x y sign l ≡ Err (Faulty i) → Admitted o k ws set × GoodStatement o (o + k) x y sign × FaultAt o k (chosen set ws) x y (sign_at sign) l i
      at (admitted net j) e =
          let (b, z) = tests_faulty bad found i (j ∙ e) in
          let may = asked b in
          (net, may, (at_exactly net may i).0 (step z))
      at (refused r f j) e = let c : ◌≡◌ {A = ℕ} 0 1 = cc in absurd (omega arith)

      back : Admitted o k ws set × GoodStatement o (o + k) x y sign × FaultAt o k (chosen set ws) x y (sign_at sign) l i → judged o k ws set x y sign l ≡ Err (Faulty i)
      back h = sym (judged_admitted h.0) ∙ rw (is_asked h.1, (at_exactly h.0 h.1 i).1 h.2)

  -- The number for no one step is given exactly if the list is no proof and none of its steps is the first at fault.
  pub no_step_exactly : (judged o k ws set x y sign l ≡ Err (Faulty no_step))
      ↔ (Admitted o k ws set × GoodStatement o (o + k) x y sign × (Proves o k (chosen set ws) x y (sign_at sign) l → ⊥) × ((i : ℕ) → FaultAt o k (chosen set ws) x y (sign_at sign) l i → ⊥))
  no_step_exactly = (at (cases (check_net o k ws set) refl), back)
    where
      nowhere : Admitted o k ws set → GoodStatement o (o + k) x y sign → (found ≡ At no_step) ⊎ ((found ≡ Nowhere) × (◌≡◌ {A = ℕ} no_step no_step)) → found ≡ Nowhere
      nowhere net may (inl z) = let f = fault_small ((at_exactly net may no_step).0 z) in absurd (omega (arith, f))
      nowhere net may (inr z) = z.0

      at : Case → judged o k ws set x y sign l ≡ Err (Faulty no_step)
          → Admitted o k ws set × GoodStatement o (o + k) x y sign × (Proves o k (chosen set ws) x y (sign_at sign) l → ⊥) × ((i : ℕ) → FaultAt o k (chosen set ws) x y (sign_at sign) l i → ⊥)
      at (admitted net j) e =
          let (b, z) = tests_faulty bad found no_step (j ∙ e) in
          let may = asked b in
          let n = (none_exactly net may).0 (nowhere net may z) in
          (net, may, n.0, n.1)
      at (refused r f j) e = let c : ◌≡◌ {A = ℕ} 0 1 = cc in absurd (omega arith)

      back : Admitted o k ws set × GoodStatement o (o + k) x y sign × (Proves o k (chosen set ws) x y (sign_at sign) l → ⊥) × ((i : ℕ) → FaultAt o k (chosen set ws) x y (sign_at sign) l i → ⊥)
          → judged o k ws set x y sign l ≡ Err (Faulty no_step)
      back h = sym (judged_admitted h.0) ∙ rw (is_asked h.1, (none_exactly h.0 h.1).1 (h.2, h.3))

  -- It is refused exactly as the net is, or by number 4 where the statement may not be asked of an admitted net.
  pub refused_exactly : (r : Refusal)
      → (judged o k ws set x y sign l ≡ Err (Refused r))
      ↔ ((check_net o k ws set ≡ Err r) ⊎ (Admitted o k ws set × (GoodStatement o (o + k) x y sign → ⊥) × (r ≡ BadQuestion)))
  refused_exactly r = (at (cases (check_net o k ws set) refl), ⊎_elim (λ e. sym (on_refusal e)) on_question)
    where
      at : Case → judged o k ws set x y sign l ≡ Err (Refused r)
          → (check_net o k ws set ≡ Err r) ⊎ (Admitted o k ws set × (GoodStatement o (o + k) x y sign → ⊥) × (r ≡ BadQuestion))
      at (admitted net j) e =
          let (b, f) = tests_refused bad found r (j ∙ e) in
          inr (net, (λ a. contradiction (sym (is_asked a) ∙ b)), f)
      at (refused q f j) e =
          let same : q ≡ r = cc in
          inl (rw same at f)

      on_question : Admitted o k ws set × (GoodStatement o (o + k) x y sign → ⊥) × (r ≡ BadQuestion) → judged o k ws set x y sign l ≡ Err (Refused r)
      on_question h =
          let b : bad ≡ true = (decides_not bad (asked, is_asked)).1 h.1 in
          sym (judged_admitted h.0) ∙ rw (b, h.2)

  -- What is accepted is supported by the chosen words.
  pub judged_supported : judged o k ws set x y sign l ≡ Ok tt → Supported o k (Links (chosen set ws)) x y (sign_at sign)
  judged_supported e =
      let (net, may, p) = judged_exactly.0 e in
      sound o k (chosen set ws) (chosen_net set o k ws net.1) x y (sign_at sign) may.pair.node (good_kind may.pair) p.proof
