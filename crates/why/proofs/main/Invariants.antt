-- The turn to come is below 8,192, so that there is a last one.
use Rattle.std.proofs.Common.{◌-◌}
use mathlib.Core.Bool.{cond}
use Rattle.why.proofs.Going.{Below}
use Rattle.why.proofs.main.Given as goal

abbrev pub invariant-loop-going : goal.invariant-loop-going
invariant-loop-going l = Below l.going l.i

abbrev pub decreases-loop-going : goal.decreases-loop-going
decreases-loop-going l = cond l.going (8192 - l.i) 0
