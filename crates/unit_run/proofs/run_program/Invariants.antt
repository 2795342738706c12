use Prim.Native.Nat.{◌≤◌}
use mathlib.Core.Path.{◌≡◌}
use mathlib.Core.Bool.{false}
use lib.ListN.{length}
use Rattle.theory.specs.Origins.{chosen}
use Rattle.unit_program.specs.Programs.{items}
use Rattle.unit_program.specs.Runs.{run_items}
use Rattle.unit_program.specs.Faults.{Sound}
use Rattle.unit_run.proofs.run_program.Given as goal

abbrev pub invariant-loop-rest : goal.invariant-loop-rest
invariant-loop-rest l =
    record {
      long : length l.marks ≡ length l.initial.marks;
      short : length l.rest ≤ length l.program;
      sound : Sound l.n false l.rest;
      ahead : run_items (chosen l.set l.words) (items l.n l.program) l.budget l.initial.marks ≡ run_items (chosen l.set l.words) (items l.n l.rest) l.left l.marks;
    }

abbrev pub decreases-loop-rest : goal.decreases-loop-rest
decreases-loop-rest l = length l.rest
