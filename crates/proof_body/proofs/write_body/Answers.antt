use Rattle.proof_body.proofs.Bodies.{body_written}
use Rattle.theory.specs.Origins.{chosen}
use Rattle.proof_body.proofs.write_body.Goals as goal

pub returns : goal.returns
returns c =
    body_written (chosen c.args.set c.args.words.now) c.args.path.now c.args.first c.args.links c.args.node c.args.start c.args.list.now c.write_uses.new.list c.put_step.new.list
    c.write_closes.new.list c.requires.room.1 c.write_uses.ensures c.put_step.ensures c.write_closes.ensures
