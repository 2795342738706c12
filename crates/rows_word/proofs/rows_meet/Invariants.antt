use Prim.Native.Nat.{◌+◌, ◌-◌}
use mathlib.Core.Path.{◌≡◌}
use Rattle.rows_steps.specs.Rows.{meets}
use Rattle.rows_word.proofs.Going.{meets_from}
use Rattle.rows_word.proofs.rows_meet.Given as goal

abbrev pub invariant-loop-j : goal.invariant-loop-j
invariant-loop-j l = meets l.a l.b l.w l.rows l.others ≡ meets_from l.both (l.a + l.j) (l.b + l.j) (l.w - l.j) l.rows l.others
