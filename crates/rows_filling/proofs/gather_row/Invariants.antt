use Prim.Native.Nat.{◌-◌}
use mathlib.Core.Path.{◌≡◌}
use Rattle.rows_steps.specs.Steps.{gather_words}
use Rattle.rows_filling.proofs.gather_row.Given as goal

abbrev pub invariant-loop-i : goal.invariant-loop-i
invariant-loop-i l = gather_words l.w l.a 0 l.w l.yeses l.rows l.initial.row ≡ gather_words l.w l.a l.i (l.w - l.i) l.yeses l.rows l.row
