use Rattle.proof_check.specs.declared.JudgeError.TheVariants.{Refused}
use Rattle.std.specs.Prelude.{Err}
use Rattle.std.proofs.lemmas.Result.{err_from_is_err_and}
use mathlib.Core.Path.{sym}
use Rattle.theory.specs.Origins.{chosen}
use Rattle.net.proofs.NetCheck.{chosen_checked}
use Rattle.net.proofs.OnNet.{passed_on, gone_on}
use Rattle.proof_check.specs.Table.{judged_clauses, judged_done}
use Rattle.proof_check.proofs.check_proof.Goals as goal

pub returns-in_err-n : goal.returns-in_err-n
returns-in_err-n c =
    let p = err_from_is_err_and c.from_residual.result c.from_residual.ensures.1 in
    rw (p.1, p.2)
    (passed_on (λ r. Err (Refused r)) c.args.o c.args.k c.args.words.now c.args.set (judged_clauses c.args.o (chosen c.args.set c.args.words.now) c.args.x c.args.y c.args.sign c.args.list.now) (λ _. judged_done)
    (sym c.in_err-n.ensures))

pub check_statement-requires : goal.check_statement-requires
check_statement-requires c =
    let p = chosen_checked c.args.o c.args.k c.args.words.now c.args.set (sym c.in_ok-n.ensures) in
    (p.0, p.1)

pub returns : goal.returns
returns c =
    gone_on (λ r. Err (Refused r)) c.args.o c.args.k c.args.words.now c.args.set (judged_clauses c.args.o (chosen c.args.set c.args.words.now) c.args.x c.args.y c.args.sign c.args.list.now) (λ _. judged_done)
    (sym c.in_ok-n.ensures) c.check_statement.ensures
