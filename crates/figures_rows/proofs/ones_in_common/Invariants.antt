use Prim.Native.Nat.{◌+◌, ◌-◌, ◌*◌, ◌≤◌}
use mathlib.Core.Path.{◌≡◌}
use Rattle.figures_counts.specs.Ones.{ones_both}
use Rattle.figures_rows.proofs.ones_in_common.Given as goal

abbrev pub invariant-loop-i : goal.invariant-loop-i
invariant-loop-i l = (l.size + ones_both l.i (l.e - l.i) l.rows l.others ≡ ones_both l.a (l.e - l.a) l.rows l.others) × (l.size ≤ l.i * 64)
