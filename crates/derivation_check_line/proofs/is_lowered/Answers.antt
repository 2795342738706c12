use mathlib.Core.Path.{refl}
use Rattle.derivation_check_line.proofs.Reading.{no_lowered, lowered_read}
use Rattle.derivation_check_line.proofs.is_lowered.Goals as goal

pub returns-then-n-i : goal.returns-then-n-i
returns-then-n-i c =
    no_lowered c.args.o c.args.k c.args.list.now c.args.n c.args.x c.args.y c.args.i c.args.j c.if-n-i.true

pub returns : goal.returns
returns c =
    lowered_read c.args.o c.args.k c.args.list.now c.args.n c.args.x c.args.y c.args.i c.args.j c.requires.lines c.if-n-i.false c.head_of-middle.ensures
    c.is_kind.ensures c.is_kind-2.ensures refl c.is_above-first.ensures c.is_above-second.ensures
