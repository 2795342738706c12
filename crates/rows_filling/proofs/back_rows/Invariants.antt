use Prim.Native.Nat.{◌-◌}
use mathlib.Core.Path.{◌≡◌}
use Rattle.rows_steps.specs.Steps.{back}
use Rattle.rows_filling.proofs.back_rows.Given as goal

abbrev pub invariant-loop-x : goal.invariant-loop-x
invariant-loop-x l = back l.w l.o (l.n - l.o) 0 l.n l.yeses l.initial.rows ≡ back l.w l.o (l.n - l.o) l.x (l.n - l.x) l.yeses l.rows
