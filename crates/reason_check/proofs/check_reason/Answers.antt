-- The check's refusal is passed on, and over its net the list is checked.
use Rattle.std.specs.Prelude.{Err}
use Rattle.std.proofs.lemmas.Result.{err_from_is_err_and}
use mathlib.Core.Path.{sym}
use Rattle.theory.specs.Origins.{chosen}
use Rattle.net.proofs.NetCheck.{chosen_checked}
use Rattle.net.proofs.OnNet.{passed_on, gone_on}
use Rattle.reason_check.specs.Table.{check_clauses, check_done}
use Rattle.reason_check.proofs.check_reason.Goals as goal

pub check_list-requires : goal.check_list-requires
check_list-requires c =
    (chosen_checked c.args.o c.args.k c.args.words.now c.args.set (sym c.in_ok-n.ensures)).1

pub returns-in_err-n : goal.returns-in_err-n
returns-in_err-n c =
    let p = err_from_is_err_and c.from_residual.result c.from_residual.ensures.1 in
    rw (p.1, p.2)
    (passed_on Err c.args.o c.args.k c.args.words.now c.args.set (check_clauses c.args.o c.args.x c.args.y c.args.sign)
    (λ _. check_done c.args.o c.args.k (chosen c.args.set c.args.words.now) c.args.x c.args.y c.args.sign c.args.list.now) (sym c.in_err-n.ensures))

pub returns : goal.returns
returns c =
    gone_on Err c.args.o c.args.k c.args.words.now c.args.set (check_clauses c.args.o c.args.x c.args.y c.args.sign)
    (λ _. check_done c.args.o c.args.k (chosen c.args.set c.args.words.now) c.args.x c.args.y c.args.sign c.args.list.now) (sym c.in_ok-n.ensures)
    c.check_list.ensures
