-- The loop's invariant: the bytes of the kinds below y stand in front of the table.
use Prim.Native.Nat.{◌-◌}
use mathlib.Core.Path.{◌≡◌}
use Rattle.theory_laws.specs.Over.{over}
use Rattle.valuation.specs.Values.{value_row}
use Rattle.valuation.proofs.put_row.Given as goal

abbrev pub invariant-loop-y : goal.invariant-loop-y
invariant-loop-y l = l.table ≡ over (value_row l.marks l.o (l.y - l.o)) l.initial.table
