use Rattle.theory.specs.Words.{sign_at}
use Rattle.derivation_check.proofs.Verdicts.{not_whole, no_line, other_last, lines_decide}
use Rattle.derivation_check.proofs.is_derivation.Goals as goal

pub returns-then-list-ne0 : goal.returns-then-list-ne0
returns-then-list-ne0 c =
    not_whole c.args.o c.args.k c.args.set c.args.words.now c.args.x c.args.y (sign_at c.args.sign) c.args.list.now c.if-list-ne0.true

pub returns-then-count-eq0 : goal.returns-then-count-eq0
returns-then-count-eq0 c =
    no_line c.args.o c.args.k c.args.set c.args.words.now c.args.x c.args.y (sign_at c.args.sign) c.args.list.now c.if-count-eq0.true

pub returns-then-not-is_above : goal.returns-then-not-is_above
returns-then-not-is_above c =
    other_last c.args.o c.args.k c.args.set c.args.words.now c.args.x c.args.y (sign_at c.args.sign) c.args.list.now c.is_above.ensures c.if-not-is_above.true

pub returns : goal.returns
returns c =
    lines_decide c.args.o c.args.k c.args.set c.args.words.now c.args.x c.args.y (sign_at c.args.sign) c.args.list.now c.is_above.ensures c.if-list-ne0.false c.if-not-is_above.false c.lines_hold.ensures
