use native.Mathlib.Omega.{arith}
use Rattle.text_field.proofs.Writing.{wrote_as}
use Rattle.why_question.proofs.Texts.{asked_done, asked_refused}
use Rattle.why_question.proofs.put_asked.Goals as goal

pub returns-in-Ok : goal.returns-in-Ok
returns-in-Ok c =
    (wrote_as (asked_done c.args.told c.args.o c.args.k c.args.words.now c.args.set c.args.x c.args.y c.in-Ok.is) c.put_because.ensures.0, c.put_because.ensures.1)

pub returns-in-Err : goal.returns-in-Err
returns-in-Err c =
    (asked_refused c.args.told c.args.o c.args.k c.args.words.now c.args.set c.args.x c.args.y c.args.text.now c.in-Err.is, omega arith)
