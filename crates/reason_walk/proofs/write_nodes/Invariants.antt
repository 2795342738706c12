-- The loop has come to a state: what it wrote and counted, with the rest of the way, is the whole.
use Prim.Native.Nat.{◌-◌}
use Rattle.theory.specs.Words.{sign_at}
use Rattle.theory.specs.Origins.{chosen}
use Rattle.reason_walk.proofs.Walking.{Walking}
use Rattle.reason_walk.proofs.write_nodes.Given as goal

abbrev pub invariant-loop-at : goal.invariant-loop-at
invariant-loop-at l = Walking l.n (sign_at l.sign) (chosen l.set l.words) l.places l.x l.initial.list l.list l.state (l.far - l.at) l.count l.at
