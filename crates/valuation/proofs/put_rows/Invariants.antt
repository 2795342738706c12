-- The loop's invariant: the rows of the nodes below x stand in front of the table, and the bytes past the nodes are as they were.
use mathlib.Core.Path.{◌≡◌}
use lib.ListN.{length, drop}
use Rattle.theory_laws.specs.Over.{over}
use Rattle.theory.specs.Origins.{chosen}
use Rattle.valuation.specs.Values.{value_rows}
use Rattle.valuation.proofs.put_rows.Given as goal

abbrev pub invariant-loop-x : goal.invariant-loop-x
invariant-loop-x l =
    (drop l.n l.marks ≡ drop l.n l.initial.marks)
    × (l.at ≡ length (value_rows l.o l.k (chosen l.set l.words) 0 l.x))
    × (l.table ≡ over (value_rows l.o l.k (chosen l.set l.words) 0 l.x) l.initial.table)
