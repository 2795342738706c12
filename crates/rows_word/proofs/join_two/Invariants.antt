use Prim.Native.Nat.{◌+◌, ◌-◌}
use mathlib.Core.Path.{◌≡◌}
use Rattle.rows_steps.specs.Rows.{gain}
use Rattle.rows_word.proofs.join_two.Given as goal

abbrev pub invariant-loop-j : goal.invariant-loop-j
invariant-loop-j l =
    gain l.a l.c l.w l.others (gain l.a l.b l.w l.others l.initial.rows) ≡ gain (l.a + l.j) (l.c + l.j) (l.w - l.j) l.others (gain (l.a + l.j) (l.b + l.j) (l.w - l.j) l.others l.rows)
