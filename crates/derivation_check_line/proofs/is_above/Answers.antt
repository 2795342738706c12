use Rattle.derivation_check_line.proofs.Reading.{not_above, above_read}
use Rattle.derivation_check_line.proofs.is_above.Goals as goal

pub returns-then-n-j : goal.returns-then-n-j
returns-then-n-j c =
    not_above c.args.list.now c.args.n c.args.j c.args.x c.args.y c.args.sign c.if-n-j.true

pub returns : goal.returns
returns c =
    above_read c.args.list.now c.args.n c.args.j c.args.x c.args.y c.args.sign c.requires.sign c.requires.lines c.if-n-j.false c.tail_of.ensures c.head_of.ensures
