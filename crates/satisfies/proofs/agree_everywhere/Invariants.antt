-- The loop's invariant: the elements that are left say what all say.
use Prim.Native.Nat.{◌-◌}
use mathlib.Core.Path.{◌≡◌}
use Rattle.theory.specs.Words.{sign_at}
use Rattle.theory.specs.Valuations.{everywhere}
use Rattle.satisfies.proofs.agree_everywhere.Given as goal

abbrev pub invariant-loop-d : goal.invariant-loop-d
invariant-loop-d l = everywhere l.o l.k l.table l.x l.y (sign_at l.sign) 0 l.n ≡ everywhere l.o l.k l.table l.x l.y (sign_at l.sign) l.d (l.n - l.d)
