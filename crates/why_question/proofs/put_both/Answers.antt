use native.Mathlib.Omega.{arith}
use Rattle.text_field.proofs.Writing.{wrote_more, wrote_as}
use Rattle.why_question.proofs.Texts.{both_joins}
use Rattle.why_question.proofs.put_both.Goals as goal

pub returns : goal.returns
returns c = (
  wrote_as (both_joins c.args.told c.args.o c.args.k c.args.words.now c.args.set c.args.x c.args.y)
      (wrote_more c.put_why-at.ensures.0 (omega (arith, c.put_why-at.ensures.0.size, c.put_why-at.ensures.1, c.requires)) c.put_why.ensures.0),
  omega (arith, c.put_why-at.ensures.1, c.put_why.ensures.1),
)
