-- The rounds still in the budget, from the marks as they are, give what the whole budget gives from the marks at the beginning.
use Prim.Native.Nat.{◌-◌}
use mathlib.Core.Path.{◌≡◌}
use mathlib.Core.Bool.{false}
use lib.Dec.{eqb}
use lib.ListN.{length}
use Rattle.theory.specs.Marks.{commands}
use Rattle.theory.specs.Scans.{rounds}
use Rattle.theory.specs.Origins.{chosen}
use Rattle.scan_lanes.specs.Codes.{marks_of, Written}
use Rattle.scan_lanes.specs.Passes.{isnt_commands}
use Rattle.scan_round.specs.Quiet.{Quiet}
use Rattle.scan_rounds.proofs.run_written.Given as goal

abbrev pub invariant-loop-count : goal.invariant-loop-count
invariant-loop-count l =
    (length l.marks ≡ length l.initial.marks)
    × (rounds commands (chosen l.plan.set l.plan.words.now) 0 l.budget (marks_of l.plan.n l.initial.marks)
    ≡ rounds commands (chosen l.plan.set l.plan.words.now) l.count (l.budget - l.count) (marks_of l.plan.n l.marks))
    × Written l.plan.n l.marks
    × (eqb l.count 0 ≡ false → Quiet isnt_commands (chosen l.plan.set l.plan.words.now) (marks_of l.plan.n l.marks))
