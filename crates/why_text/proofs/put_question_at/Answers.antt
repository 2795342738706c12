use Rattle.text_field.proofs.Writing.{wrote_as}
use Rattle.why_text.proofs.Parts.{nothing_written, question_is}
use Rattle.why_text.proofs.put_question_at.Goals as goal

pub returns-then-questions-i : goal.returns-then-questions-i
returns-then-questions-i c =
    nothing_written c.args.told c.args.o c.args.k c.args.words.now c.args.set c.args.questions.now c.args.i c.args.text.now c.if-questions-i.true

pub returns : goal.returns
returns c =
    wrote_as
    (question_is c.args.told c.args.o c.args.k c.args.words.now c.args.set c.args.questions.now c.args.i c.if-questions-i.false c.u16_at-x.ensures.0 c.u16_at-y.ensures.0)
    c.put_question.ensures.0
