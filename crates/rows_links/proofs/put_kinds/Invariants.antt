use Prim.Native.Nat.{◌-◌}
use mathlib.Core.Path.{◌≡◌}
use Rattle.rows_steps.specs.Steps.{kind_bits}
use Rattle.rows_links.proofs.put_kinds.Given as goal

abbrev pub invariant-loop-p : goal.invariant-loop-p
invariant-loop-p l = kind_bits l.w l.o (l.n - l.o) l.initial.rows ≡ kind_bits l.w l.p (l.n - l.p) l.rows
