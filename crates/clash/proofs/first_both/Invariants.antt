-- The loop's invariant: what is left to search gives what the whole does.
use Prim.Native.Nat.{◌-◌}
use mathlib.Core.Path.{◌≡◌}
use Rattle.clash.specs.Table.{first_both}
use Rattle.clash.proofs.first_both.Given as goal

abbrev pub invariant-loop-y : goal.invariant-loop-y
invariant-loop-y l = first_both l.marks l.o (l.n - l.o) ≡ first_both l.marks l.y (l.n - l.y)
