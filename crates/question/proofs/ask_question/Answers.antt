-- The check's refusal is passed on, and its net is asked.
use Rattle.std.proofs.lemmas.Result.{err_from_is_err_and}
use Rattle.std.specs.Prelude.{Err}
use mathlib.Core.Path.{sym}
use Rattle.theory.specs.Origins.{chosen}
use Rattle.net.proofs.NetCheck.{chosen_checked}
use Rattle.net.proofs.OnNet.{passed_on, gone_on}
use Rattle.question.specs.Table.{question_outcome, question_clauses, question_done}
use Rattle.question.proofs.ask_question.Goals as goal

pub question_net-requires : goal.question_net-requires
question_net-requires c =
    let t = chosen_checked c.args.o c.args.k c.args.words.now c.args.set (sym c.in_ok-n.ensures) in
    record { net = t.1; size = t.0 }

pub returns-in_err-n : goal.returns-in_err-n
returns-in_err-n c =
    let p = err_from_is_err_and c.from_residual.result c.from_residual.ensures.1 in
    rw (p.1, p.2)
    (passed_on (λ r. question_outcome (Err r) c.args.marks.now) c.args.o c.args.k c.args.words.now c.args.set
    (question_clauses c.args.o c.args.x c.args.y c.args.marks.now) (question_done (chosen c.args.set c.args.words.now) c.args.x c.args.y c.args.marks.now)
    (sym c.in_err-n.ensures))

pub returns : goal.returns
returns c =
    gone_on (λ r. question_outcome (Err r) c.args.marks.now) c.args.o c.args.k c.args.words.now c.args.set
    (question_clauses c.args.o c.args.x c.args.y c.args.marks.now) (question_done (chosen c.args.set c.args.words.now) c.args.x c.args.y c.args.marks.now)
    (sym c.in_ok-n.ensures) c.question_net.ensures
