-- The check's refusal is passed on, and its net is filled in.
use Rattle.std.proofs.lemmas.Result.{err_from_is_err_and}
use Rattle.valuation.specs.declared.ValuationError.TheVariants.{Refused}
use Rattle.std.specs.Prelude.{Err}
use mathlib.Core.Path.{sym}
use Rattle.theory.specs.Origins.{chosen}
use Rattle.net.proofs.OnNet.{passed_on, gone_on}
use Rattle.net.proofs.NetCheck.{chosen_checked}
use Rattle.valuation.specs.Values.{own_values}
use Rattle.valuation.specs.Table.{valuation_outcome, valuation_clauses, valuation_done}
use Rattle.valuation.proofs.fill_valuation.Goals as goal

pub fill_checked-requires : goal.fill_checked-requires
fill_checked-requires c =
    let t = chosen_checked c.args.o c.args.k c.args.words.now c.args.set (sym c.in_ok-n.ensures) in
    record {
      net = t.1;
      size = t.0;
    }

pub returns-in_err-n : goal.returns-in_err-n
returns-in_err-n c =
    let p = err_from_is_err_and c.from_residual.result c.from_residual.ensures.1 in
    rw (p.1, p.2)
    (passed_on (λ r. valuation_outcome (Err (Refused r)) c.args.table.now c.args.marks.now) c.args.o c.args.k c.args.words.now c.args.set
    (valuation_clauses c.args.k c.args.table.now c.args.marks.now)
    (valuation_done (own_values c.args.o c.args.k (chosen c.args.set c.args.words.now)) c.args.table.now c.args.marks.now) (sym c.in_err-n.ensures))

pub returns : goal.returns
returns c =
    gone_on (λ r. valuation_outcome (Err (Refused r)) c.args.table.now c.args.marks.now) c.args.o c.args.k c.args.words.now c.args.set
    (valuation_clauses c.args.k c.args.table.now c.args.marks.now)
    (valuation_done (own_values c.args.o c.args.k (chosen c.args.set c.args.words.now)) c.args.table.now c.args.marks.now) (sym c.in_ok-n.ensures)
    c.fill_checked.ensures
