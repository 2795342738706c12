use Prim.Native.Nat.{◌-◌}
use mathlib.Core.Path.{◌≡◌}
use Rattle.rows_steps.specs.Steps.{back_row}
use Rattle.rows_filling.proofs.back_row.Given as goal

abbrev pub invariant-loop-y : goal.invariant-loop-y
invariant-loop-y l = back_row l.w l.a l.o (l.n - l.o) l.yeses l.initial.rows ≡ back_row l.w l.a l.y (l.n - l.y) l.yeses l.rows
