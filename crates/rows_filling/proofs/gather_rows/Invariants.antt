use Prim.Native.Nat.{◌-◌}
use mathlib.Core.Path.{◌≡◌}
use Rattle.rows_steps.specs.Steps.{gather}
use Rattle.rows_filling.proofs.gather_rows.Given as goal

abbrev pub invariant-loop-x : goal.invariant-loop-x
invariant-loop-x l = gather l.w 0 l.n l.yeses l.initial.rows ≡ gather l.w l.x (l.n - l.x) l.yeses l.rows
