use Prim.Native.Nat.{◌-◌}
use mathlib.Core.Path.{◌≡◌}
use Rattle.rows_steps.specs.Steps.{middles}
use Rattle.rows_links.proofs.close_rows.Given as goal

abbrev pub invariant-loop-m : goal.invariant-loop-m
invariant-loop-m l = middles l.w l.n l.o (l.n - l.o) l.initial.rows ≡ middles l.w l.n l.m (l.n - l.m) l.rows
