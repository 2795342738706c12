-- The rows of the nodes below x stand in front of the list, and the bytes past the nodes are as they were.
use mathlib.Core.Path.{◌≡◌}
use lib.ListN.{length, drop}
use Rattle.theory_laws.specs.Over.{over}
use Rattle.theory.specs.Origins.{chosen}
use Rattle.theory.specs.Completion.{rows}
use Rattle.completion_list.proofs.write_rows.Given as goal

abbrev pub invariant-loop-x : goal.invariant-loop-x
invariant-loop-x l =
    (drop l.n l.marks ≡ drop l.n l.initial.marks)
    × (l.at ≡ length (rows l.o l.k (chosen l.set l.words) 0 l.x))
    × (l.list ≡ over (rows l.o l.k (chosen l.set l.words) 0 l.x) l.initial.list)
