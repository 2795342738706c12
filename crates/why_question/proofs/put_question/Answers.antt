use native.Mathlib.Omega.{arith}
use Rattle.text_field.proofs.Writing.{wrote_more, wrote_as}
use Rattle.why_question.proofs.Texts.{question_joins}
use Rattle.why_question.proofs.put_question.Goals as goal

pub returns : goal.returns
returns c = (
  wrote_as (question_joins c.args.told c.args.o c.args.k c.args.words.now c.args.set c.args.x c.args.y c.ask_question-asked.ensures)
      (wrote_more c.put_line-at.ensures.0 (omega (arith, c.put_line-at.ensures.0.size, c.put_line-at.ensures.1)) c.put_asked.ensures.0),
  omega (arith, c.put_line-at.ensures.1, c.put_asked.ensures.1),
)
