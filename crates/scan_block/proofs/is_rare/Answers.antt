use native.Mathlib.Omega.{arith}
use Rattle.scan_block.proofs.is_rare.Goals as goal

pub loop-from-init : goal.loop-from-init
loop-from-init c = (omega arith, omega arith, omega arith)

pub lacks-without-requires : goal.lacks-without-requires
lacks-without-requires c = omega (arith, c.loop-from-test.true, c.loop-from.invariant.0)

pub loop-from-preserved : goal.loop-from-preserved
loop-from-preserved c =
    (omega (arith, c.loop-from.invariant.0), omega arith, omega (arith, c.lacks-without.ensures))
