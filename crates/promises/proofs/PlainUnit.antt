-- The number table of the marker unit read aloud: each number in plain terms.
use Prim.Native.Nat.{ℕ, ◌+◌, ◌≤◌, ◌<◌}
use mathlib.Core.Path.{◌≡◌, refl, ap, ◌∙◌}
use mathlib.Core.Bool.{Bool, true, false, not}
use mathlib.Core.List.{List}
use mathlib.Core.Logic.{◌↔◌}
use native.Mathlib.Omega.{arith}
use lib.Dec.{ltb}
use lib.ListN.{length, take}
use borrow.Author.Tests.{ltb-true, ltb-false, not-true, not-false}
use Rattle.theory.specs.Origins.{chosen}
use Rattle.theory.specs.Scans.{Scan}
use Rattle.net.specs.Passing.{FirstIllegal}
use Rattle.unit_program.specs.Faults.{first_fault, Sound}
use Rattle.unit_program.specs.Wrong.{FirstWrong}
use Rattle.unit_program.specs.Runs.{run}
use Rattle.unit_program.specs.Steps.{Runs}
use Rattle.unit_program.proofs.Parsing.{prefix_most}
use Rattle.unit_program.proofs.FirstFault.{first_wrong, none_wrong}
use Rattle.unit_program.proofs.Stepping.{run_steps}
use Rattle.unit_program.proofs.Determined.{runs_unique}
use Rattle.unit.specs.Table.{simulated}
use Rattle.promises.specs.Numbers.{unit_number}
use Rattle.promises.specs.Engines.{Read}
use Rattle.promises.proofs.Demand1.{unit_obeys}
use Rattle.promises.proofs.Tests.{first, clause_5}
use Rattle.promises.proofs.Plain.{then, and_then, both, first_only, at_least, past_net, number_1, number_2, number_15, number_3}

module _ (n : ℕ) (ps : List ℕ) where
  pub whole : ltb (first_fault n ps) (length ps) ≡ false → Sound n false ps
  whole e = omega (arith, prefix_most n false ps, ltb-false (first_fault n ps) (length ps) e)

  sound : ltb (first_fault n ps) (length ps) ≡ false → (p : ℕ) → FirstWrong n ps p → ⊥
  sound e p w = none_wrong n ps (whole e) p w.below w.wrong

  -- A fault is computed exactly if some place is the first wrong one,
  pub faulty_exactly : (ltb (first_fault n ps) (length ps) ≡ true) ↔ ((p : ℕ) × FirstWrong n ps p)
  faulty_exactly = ((λ e. (first_fault n ps, first_wrong n ps (ltb-true (first_fault n ps) (length ps) e))), λ p. at (ltb (first_fault n ps) (length ps)) refl p)
    where
      at : (q : Bool) → ltb (first_fault n ps) (length ps) ≡ q → ((p : ℕ) × FirstWrong n ps p) → q ≡ true
      at true e p = refl
      at false e p = absurd (sound e p.0 p.1)

  -- and none exactly if no place is.
  pub sound_exactly : (ltb (first_fault n ps) (length ps) ≡ false) ↔ ((p : ℕ) → FirstWrong n ps p → ⊥)
  sound_exactly = (sound, λ h. at (ltb (first_fault n ps) (length ps)) refl h)
    where
      at : (q : Bool) → ltb (first_fault n ps) (length ps) ≡ q → ((p : ℕ) → FirstWrong n ps p → ⊥) → q ≡ false
      at true e h = absurd (h (first_fault n ps) (first_wrong n ps (ltb-true (first_fault n ps) (length ps) e)))
      at false e h = refl

  -- What is said of the computed run is said of what the steps come to.
  steps_exactly : (ws : List ℕ) (budget : ℕ) (m : List ℕ) (d : Bool) → ((p : ℕ) → FirstWrong n ps p → ⊥) → {D : Type 0} → D ↔ ((run n ws ps budget m).done ≡ d)
      → D ↔ ((r : Scan) × Runs n ws ps budget m r × (r.done ≡ d))
  steps_exactly ws budget m d h f =
      let t = run_steps n ws ps (whole (sound_exactly.1 h)) budget m in
      ((λ x. (run n ws ps budget m, t, f.0 x)), λ p. f.1 (ap (λ (s : Scan). s.done) (runs_unique n ws ps t p.1) ∙ p.2))

spent_exactly : (q : Bool) → (not q ≡ true) ↔ (q ≡ false)
spent_exactly q = (not-true q, λ e. rw e)

ended_exactly : (q : Bool) → (not q ≡ false) ↔ (q ≡ true)
ended_exactly q = (not-false q, λ e. rw e)

module _ (o k : ℕ) (ws : List ℕ) (set : ℕ) (program : List ℕ) (budget : ℕ) (m : List ℕ) where
  -- 1, 2, 15 and 3 as in every table: too many nodes; too many words; a set above 15; a first illegal word.
  pub unit_1 : (unit_number (simulated o k ws set program budget m) ≡ 1) ↔ (1024 < o + k)
  unit_1 = number_1 o k ws set (unit_obeys o k ws set program budget m)

  pub unit_2 : (unit_number (simulated o k ws set program budget m) ≡ 2) ↔ ((o + k ≤ 1024) × (2097152 < length ws))
  unit_2 = number_2 o k ws set (unit_obeys o k ws set program budget m)

  pub unit_15 : (unit_number (simulated o k ws set program budget m) ≡ 15) ↔ ((o + k ≤ 1024) × ((length ws ≤ 2097152) × (15 < set)))
  unit_15 = number_15 o k ws set (unit_obeys o k ws set program budget m)

  pub unit_3 : (unit_number (simulated o k ws set program budget m) ≡ 3)
      ↔ ((o + k ≤ 1024) × ((length ws ≤ 2097152) × ((set ≤ 15) × FirstIllegal o k ws (first o k ws))))
  unit_3 = number_3 o k ws set (unit_obeys o k ws set program budget m)

  -- 5: over a net, the marks are too short.
  pub unit_5 : (unit_number (simulated o k ws set program budget m) ≡ 5) ↔ (Read o k ws set × (length m < o + k))
  unit_5 = then ((unit_obeys o k ws set program budget m).exactly 5) (past_net o k ws set (clause_5 o k ws m))

  -- 16: over a net and with marks enough, some place of the program is the first wrong one.
  pub unit_16 : (unit_number (simulated o k ws set program budget m) ≡ 16) ↔ (Read o k ws set × ((o + k ≤ length m) × ((p : ℕ) × FirstWrong (o + k) program p)))
  unit_16 =
      then ((unit_obeys o k ws set program budget m).exactly 16)
      (past_net o k ws set (both (at_least (length m) (o + k)) (faulty_exactly (o + k) program)))

  -- 6: nothing is wrong, and the steps of the program, over the chosen links and on the marks of the nodes, come to a command for which the budget has nothing left.
  pub unit_6 : (unit_number (simulated o k ws set program budget m) ≡ 6)
      ↔ (Read o k ws set × ((o + k ≤ length m) × (((p : ℕ) → FirstWrong (o + k) program p → ⊥) × ((r : Scan) × Runs (o + k) (chosen set ws) program budget (take (o + k) m) r × (r.done ≡ false)))))
  unit_6 =
      then ((unit_obeys o k ws set program budget m).exactly 6)
      (past_net o k ws set (both (at_least (length m) (o + k)) (and_then (sound_exactly (o + k) program)
      (λ h. steps_exactly (o + k) program (chosen set ws) budget (take (o + k) m) false h (spent_exactly (run (o + k) (chosen set ws) program budget (take (o + k) m)).done)))))

  -- 0: nothing is wrong, and they come to the end of the program.
  pub unit_0 : (unit_number (simulated o k ws set program budget m) ≡ 0)
      ↔ (Read o k ws set × ((o + k ≤ length m) × (((p : ℕ) → FirstWrong (o + k) program p → ⊥) × ((r : Scan) × Runs (o + k) (chosen set ws) program budget (take (o + k) m) r × (r.done ≡ true)))))
  unit_0 =
      then ((unit_obeys o k ws set program budget m).exactly 0)
      (past_net o k ws set (both (at_least (length m) (o + k)) (and_then (sound_exactly (o + k) program)
      (λ h. steps_exactly (o + k) program (chosen set ws) budget (take (o + k) m) true h (first_only (ended_exactly (run (o + k) (chosen set ws) program budget (take (o + k) m)).done))))))
