use mathlib.Core.Path.{refl}
use native.Mathlib.Omega.{arith}
use Rattle.fleet_text.specs.Sums.{plus}
use Rattle.fleet_text.proofs.Adding.{sum_fits, sum_added, all_added}
use Rattle.fleet_text.proofs.add_counts.Goals as goal

pub loop-i-init : goal.loop-i-init
unfolding plus
loop-i-init c = refl

pub overflow_add-sums : goal.overflow_add-sums
overflow_add-sums c = omega (arith, sum_fits c.args.sums c.args.counts.now c.requires.0 c.requires.1 c.loop-i.sums c.loop-i.i c.loop-i.invariant (omega (arith, c.requires.1.eight)))

pub loop-i-preserved : goal.loop-i-preserved
loop-i-preserved c = sum_added c.args.sums c.args.counts.now c.requires.0 c.requires.1 c.loop-i.sums c.loop-i.i c.loop-i.invariant (omega (arith, c.requires.1.eight))

pub returns : goal.returns
returns c = all_added c.args.sums c.args.counts.now c.requires.0 c.requires.1 c.loop-i.sums c.loop-i.i c.loop-i.invariant (omega (arith, c.requires.1.eight))
