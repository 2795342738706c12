use Prim.Native.Nat.{◌-◌}
use mathlib.Core.Path.{◌≡◌}
use mathlib.Core.Bool.{cond}
use Rattle.theory.specs.Marks.{T, F, U}
use Rattle.theory.specs.Mending.{first_with}
use Rattle.mend_trial.proofs.first_with.Given as goal

abbrev pub invariant-loop-v : goal.invariant-loop-v
invariant-loop-v l = first_with (cond l.kinds U T) F l.marks l.from (l.n - l.from) ≡ first_with (cond l.kinds U T) F l.marks l.v (l.n - l.v)
