use Prim.Native.Nat.{◌+◌, ◌*◌}
use mathlib.Core.Path.{refl}
use native.Mathlib.Omega.{arith}
use Rattle.proof_body.proofs.Bodies.{front_written}
use Rattle.proof_body.proofs.write_front.Goals as goal

pub returns : goal.returns
returns c =
    front_written c.args.step c.args.links (2 * c.args.links + 3) (c.args.links + 1) (2 * c.args.links + 3) (c.args.step + 2 * c.args.links + 1) c.args.list.now c.put_step.new.list c.write_nested.new.list
    (omega arith) refl refl refl refl c.put_step.ensures c.write_nested.ensures
