use Rattle.derivation_lines.proofs.Known.{known_at}
use Rattle.derivation_check_line.proofs.Reading.{link_same, link_past}
use Rattle.derivation_check_line.proofs.is_link.Goals as goal

pub returns-then-words-i : goal.returns-then-words-i
returns-then-words-i c =
    link_past c.args.set c.args.words.now c.args.i c.args.word c.if-words-i.true

pub is_chosen-chosen-requires : goal.is_chosen-chosen-requires
is_chosen-chosen-requires c =
    known_at c.args.words.now c.requires c.args.i c.if-words-i.false

pub returns : goal.returns
returns c =
    link_same c.args.set c.args.words.now c.args.i c.args.word c.if-words-i.false c.is_chosen-chosen.ensures c.plain_of-plain.ensures
