-- The check's refusal is passed on, and in its net the reason is looked for.
use Rattle.reason.specs.declared.ReasonError.TheVariants.{Refused}
use Rattle.std.specs.Prelude.{Err}
use Rattle.std.proofs.lemmas.Result.{err_from_is_err_and}
use mathlib.Core.Path.{sym}
use Rattle.theory.specs.Origins.{chosen}
use Rattle.net.proofs.OnNet.{passed_on, gone_on}
use Rattle.reason.specs.Table.{reason_outcome, reason_clauses, reason_done}
use Rattle.reason.proofs.NetReason.{searched_net}
use Rattle.reason.proofs.find_reason.Goals as goal

pub reason_net-requires : goal.reason_net-requires
reason_net-requires c =
    searched_net c.args.o c.args.k c.args.words.now c.args.set c.in_ok-n.n (sym c.in_ok-n.ensures)

pub returns : goal.returns
returns c =
    gone_on (λ r. reason_outcome (Err (Refused r)) c.args.scratch.now c.args.list.now) c.args.o c.args.k c.args.words.now c.args.set
    (reason_clauses c.args.o (chosen c.args.set c.args.words.now) c.args.x c.args.y c.args.sign c.args.scratch.now c.args.list.now)
    (reason_done (chosen c.args.set c.args.words.now) c.args.x c.args.y c.args.sign c.args.scratch.now c.args.list.now) (sym c.in_ok-n.ensures)
    c.reason_net.ensures

pub returns-in_err-n : goal.returns-in_err-n
returns-in_err-n c =
    let p = err_from_is_err_and c.from_residual.result c.from_residual.ensures.1 in
    rw (p.1, p.2)
    (passed_on (λ r. reason_outcome (Err (Refused r)) c.args.scratch.now c.args.list.now) c.args.o c.args.k c.args.words.now c.args.set
    (reason_clauses c.args.o (chosen c.args.set c.args.words.now) c.args.x c.args.y c.args.sign c.args.scratch.now c.args.list.now)
    (reason_done (chosen c.args.set c.args.words.now) c.args.x c.args.y c.args.sign c.args.scratch.now c.args.list.now) (sym c.in_err-n.ensures))
