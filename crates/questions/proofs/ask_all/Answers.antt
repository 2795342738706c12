-- The check's refusal is passed on, and its net is asked.
use Rattle.std.proofs.lemmas.Result.{err_from_is_err_and}
use Rattle.questions.specs.declared.PairsError.TheVariants.{Refused}
use Rattle.std.specs.Prelude.{Err}
use mathlib.Core.Path.{sym}
use Rattle.theory.specs.Origins.{chosen}
use Rattle.net.proofs.NetCheck.{chosen_checked}
use Rattle.net.proofs.OnNet.{passed_on, gone_on}
use Rattle.questions.specs.Table.{questions_outcome, questions_clauses, questions_done}
use Rattle.questions.proofs.ask_all.Goals as goal

pub questions_net-requires : goal.questions_net-requires
questions_net-requires c =
    let t = chosen_checked c.args.o c.args.k c.args.words.now c.args.set (sym c.in_ok-n.ensures) in
    record {
      net = t.1;
      size = t.0;
    }

pub returns-in_err-n : goal.returns-in_err-n
returns-in_err-n c =
    let p = err_from_is_err_and c.from_residual.result c.from_residual.ensures.1 in
    rw (p.1, p.2)
    (passed_on (λ r. questions_outcome (Err (Refused r)) c.args.answers.now c.args.marks.now) c.args.o c.args.k c.args.words.now c.args.set
    (questions_clauses c.args.pairs.now c.args.answers.now c.args.marks.now)
    (questions_done c.args.o (chosen c.args.set c.args.words.now) c.args.pairs.now c.args.answers.now c.args.marks.now) (sym c.in_err-n.ensures))

pub returns : goal.returns
returns c =
    gone_on (λ r. questions_outcome (Err (Refused r)) c.args.answers.now c.args.marks.now) c.args.o c.args.k c.args.words.now c.args.set
    (questions_clauses c.args.pairs.now c.args.answers.now c.args.marks.now)
    (questions_done c.args.o (chosen c.args.set c.args.words.now) c.args.pairs.now c.args.answers.now c.args.marks.now) (sym c.in_ok-n.ensures) c.questions_net.ensures
