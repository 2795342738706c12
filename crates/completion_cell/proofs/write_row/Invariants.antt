-- The words of the kinds below y stand in front of the list.
use Prim.Native.Nat.{◌-◌}
use mathlib.Core.Path.{◌≡◌}
use lib.ListN.{length}
use Rattle.theory_laws.specs.Over.{over}
use Rattle.theory.specs.Completion.{row}
use Rattle.completion_cell.proofs.write_row.Given as goal

abbrev pub invariant-loop-y : goal.invariant-loop-y
invariant-loop-y l =
    (l.at ≡ length (row l.x l.marks l.o (l.y - l.o))) × (l.list ≡ over (row l.x l.marks l.o (l.y - l.o)) l.initial.list)
