use Rattle.proof_body.proofs.Bodies.{kind_written}
use borrow.Author.Rules.{rules}
use Rattle.theory.specs.Origins.{chosen}
use Rattle.proof_body.proofs.write_kind.Goals as goal

pub write_body-requires : goal.write_body-requires
write_body-requires c = record {
  entered = c.requires.entered;
  room = search rules;
}

pub returns : goal.returns
returns c =
    kind_written (chosen c.args.set c.args.words.now) c.args.path.now c.args.links c.args.rule c.args.node c.args.goal c.args.node c.args.start c.args.list.now c.write_front.new.list c.put_step.new.list c.write_body.new.list
    c.requires.room.2 c.write_front.ensures c.put_step.ensures c.write_body.ensures
