-- One node has no line; of more the first link is written, then the steps.
use Prim.Native.Nat.{◌-◌}
use lib.ListN.{length, take, drop, length-drop}
use lib.Seq.{take_all}
use native.Mathlib.Omega.{arith}
use Rattle.explain_path.proofs.Written.{no_climb, climb_put}
use Rattle.explain_path.proofs.write_climb.Goals as goal

pub returns-then-part-gt1 : goal.returns-then-part-gt1
returns-then-part-gt1 c =
    climb_put c.args.set c.args.words.now c.args.list.now c.args.part.now c.if-part-gt1.true {q = take (length c.args.part.now - 1) (drop 1 c.args.part.now)} (take_all (length c.args.part.now - 1) (drop 1 c.args.part.now) (simp length-drop (omega arith))) c.put_link.ensures c.write_steps.ensures

pub returns-else-part-gt1 : goal.returns-else-part-gt1
returns-else-part-gt1 c =
    no_climb c.args.set c.args.words.now c.args.list.now c.args.part.now c.if-part-gt1.false
