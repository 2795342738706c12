use native.Mathlib.Omega.{arith}
use Rattle.fleet_text.proofs.Adding.{nothing_sums}
use Rattle.fleet.proofs.main.Goals as goal

pub loop-going-init : goal.loop-going-init
loop-going-init c = (omega arith, nothing_sums)
