use native.Mathlib.Omega.{arith}
use Rattle.text_field.proofs.Writing.{wrote_as}
use Rattle.why_question.proofs.Texts.{because_none, because_yes, because_no, because_both}
use Rattle.why_question.proofs.put_because.Goals as goal

pub returns-in-None : goal.returns-in-None
returns-in-None c =
    (wrote_as (because_none c.args.told c.args.o c.args.k c.args.words.now c.args.set c.args.x c.args.y c.in-None.is) c.put_bytes.ensures, omega (arith, c.put_bytes.ensures.size))

pub returns-in-Yes : goal.returns-in-Yes
returns-in-Yes c =
    (wrote_as (because_yes c.args.told c.args.o c.args.k c.args.words.now c.args.set c.args.x c.args.y c.in-Yes.is) c.put_why.ensures.0, omega (arith, c.put_why.ensures.1))

pub returns-in-No : goal.returns-in-No
returns-in-No c =
    (wrote_as (because_no c.args.told c.args.o c.args.k c.args.words.now c.args.set c.args.x c.args.y c.in-No.is) c.put_why-in-No.ensures.0, omega (arith, c.put_why-in-No.ensures.1))

pub returns-in-Both : goal.returns-in-Both
returns-in-Both c =
    (wrote_as (because_both c.args.told c.args.o c.args.k c.args.words.now c.args.set c.args.x c.args.y c.in-Both.is) c.put_both.ensures.0, c.put_both.ensures.1)
