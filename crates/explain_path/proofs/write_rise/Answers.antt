-- One node is a kind that is itself; more are climbed.
use Rattle.explain_path.proofs.Written.{rise_one, rise_more}
use Rattle.explain_path.proofs.write_rise.Goals as goal

pub returns-then-part-eq1 : goal.returns-then-part-eq1
returns-then-part-eq1 c =
    rise_one c.args.set c.args.words.now c.args.list.now c.args.part.now c.if-part-eq1.true c.put_line.ensures

pub returns-else-part-eq1 : goal.returns-else-part-eq1
returns-else-part-eq1 c =
    rise_more c.args.set c.args.words.now c.args.list.now c.args.part.now c.requires.some.0 c.if-part-eq1.false c.write_climb.ensures
