use Rattle.completion.specs.declared.CompletionError.TheVariants.{Refused}
use Rattle.std.proofs.lemmas.Result.{err_from_is_err_and}
use Rattle.std.specs.Prelude.{Err}
use mathlib.Core.Path.{sym}
use Rattle.theory.specs.Origins.{chosen}
use Rattle.net.proofs.OnNet.{passed_on, gone_on}
use Rattle.net.proofs.NetCheck.{chosen_checked}
use Rattle.rows_completion.specs.Table.{rows_outcome, rows_clauses, rows_done}
use Rattle.rows_completion.proofs.completion_by_rows.Goals as goal

pub complete_checked-requires : goal.complete_checked-requires
complete_checked-requires c =
    let t = chosen_checked c.args.o c.args.k c.args.words.now c.args.set (sym c.in_ok-n.ensures) in
    record {
      net = t.1;
      size = t.0;
    }

pub returns-in_err-n : goal.returns-in_err-n
returns-in_err-n c =
    let p = err_from_is_err_and c.from_residual.result c.from_residual.ensures.1 in
    rw (p.1, p.2)
    (passed_on (λ r. rows_outcome (Err (Refused r)) c.args.yeses.now c.args.noes.now c.args.list.now) c.args.o c.args.k c.args.words.now c.args.set
    (rows_clauses c.args.o c.args.k (chosen c.args.set c.args.words.now) c.args.yeses.now c.args.noes.now c.args.list.now)
    (rows_done c.args.o c.args.k (chosen c.args.set c.args.words.now) c.args.yeses.now c.args.noes.now c.args.list.now) (sym c.in_err-n.ensures))

pub returns : goal.returns
returns c =
    gone_on (λ r. rows_outcome (Err (Refused r)) c.args.yeses.now c.args.noes.now c.args.list.now) c.args.o c.args.k c.args.words.now c.args.set
    (rows_clauses c.args.o c.args.k (chosen c.args.set c.args.words.now) c.args.yeses.now c.args.noes.now c.args.list.now)
    (rows_done c.args.o c.args.k (chosen c.args.set c.args.words.now) c.args.yeses.now c.args.noes.now c.args.list.now) (sym c.in_ok-n.ensures) c.complete_checked.ensures
