-- The loop over the path has come to node i: what is left of it decides. The loop over the words has come to word j: the chosen words that are left decide on the step.
use Prim.Native.Nat.{◌-◌, ◌≤◌}
use mathlib.Core.Path.{◌≡◌}
use mathlib.Core.Bool.{true}
use lib.ListN.{length, drop}
use Rattle.theory.specs.Origins.{chosen}
use Rattle.reason_check_steps.proofs.Steps.{steps_from, step_from}
use Rattle.reason_check_steps.proofs.steps_hold.Given as goal

abbrev pub invariant-loop-j : goal.invariant-loop-j
invariant-loop-j l =
    (l.holds ≡ true) × (l.j ≤ length l.words) × (step_from l.o l.k (chosen l.set l.words) l.list l.i ≡ step_from l.o l.k (chosen l.set (drop l.j l.words)) l.list l.i)

abbrev pub decreases-loop-j : goal.decreases-loop-j
decreases-loop-j l = length l.words - l.j

abbrev pub invariant-steps : goal.invariant-steps
invariant-steps l =
    (l.holds ≡ true) × (l.i ≤ length l.list - 3) × (steps_from l.o l.k (chosen l.set l.words) l.list 0 ≡ steps_from l.o l.k (chosen l.set l.words) l.list l.i)

abbrev pub decreases-steps : goal.decreases-steps
decreases-steps l = length l.list - 3 - l.i
