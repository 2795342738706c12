use mathlib.Core.Path.{◌≡◌}
use mathlib.Core.Bool.{false}
use mathlib.Core.List.{map}
use lib.ListN.{length, drop}
use Rattle.theory.specs.Origins.{chosen}
use Rattle.unit_program.specs.Programs.{decode}
use Rattle.unit_program.specs.Runs.{pass}
use Rattle.unit_run.proofs.run_pass.Given as goal

abbrev pub invariant-loop-word : goal.invariant-loop-word
invariant-loop-word l =
    record {
      long : length l.marks ≡ length l.initial.marks;
      ahead : pass (chosen l.set l.words) (map (decode l.n) l.program) l.budget false l.initial.marks ≡ pass (chosen l.set l.words) (map (decode l.n) (drop l.word-index l.program)) l.left l.fresh l.marks;
    }
