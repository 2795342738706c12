use Prim.Native.Nat.{suc}
use mathlib.Core.Path.{◌≡◌}
use mathlib.Core.List.{map}
use lib.ListN.{length}
use Rattle.theory.specs.Origins.{chosen}
use Rattle.unit_program.specs.Programs.{decode}
use Rattle.unit_program.specs.Runs.{passes}
use Rattle.unit_run.proofs.run_loop.Given as goal

abbrev pub invariant-loop-stood : goal.invariant-loop-stood
invariant-loop-stood l = (length l.marks ≡ length l.initial.marks) × (passes (chosen l.set l.words) (map (decode l.n) l.program) (suc l.budget) l.budget l.initial.marks ≡ passes (chosen l.set l.words) (map (decode l.n) l.program) (suc l.left) l.left l.marks)

abbrev pub decreases-loop-stood : goal.decreases-loop-stood
decreases-loop-stood l = l.left
