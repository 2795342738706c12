use native.Mathlib.Omega.{arith}
use Rattle.proof_body.proofs.Bodies.{object_written}
use borrow.Author.Rules.{rules}
use Rattle.theory.specs.Origins.{chosen}
use Rattle.proof_body.proofs.write_object.Goals as goal

pub write_body-requires : goal.write_body-requires
write_body-requires c = record {
  entered = c.requires.entered;
  room = search rules;
}

pub returns : goal.returns
returns c =
    object_written (chosen c.args.set c.args.words.now) c.args.path.now c.args.links c.args.node c.args.start c.args.list.now c.write_front.new.list c.write_body.new.list
    (omega arith) c.write_front.ensures c.write_body.ensures
