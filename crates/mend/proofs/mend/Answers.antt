use Rattle.mend.specs.declared.MendError.TheVariants.{Refused}
use Rattle.std.proofs.lemmas.Result.{err_from_is_err_and}
use Rattle.std.specs.Prelude.{Err}
use mathlib.Core.Path.{sym}
use mathlib.Core.List.{[]}
use Rattle.theory.specs.Mending.{kept_from, dropped_from}
use Rattle.net.proofs.OnNet.{plain_passed_on, plain_gone_on}
use Rattle.net.proofs.NetCheck.{plain_checked}
use Rattle.mend.specs.Table.{mending_outcome, mending_clauses, mending_done}
use Rattle.mend.proofs.mend.Goals as goal

pub mend_checked-requires : goal.mend_checked-requires
mend_checked-requires c =
    let t = plain_checked c.args.o c.args.k c.args.words.now (sym c.in_ok-n.ensures) in
    record {
      net = t.1;
      size = t.0;
    }

pub returns-in_err-n : goal.returns-in_err-n
returns-in_err-n c =
    let p = err_from_is_err_and c.from_residual.result c.from_residual.ensures.1 in
    rw (p.1, p.2)
    (plain_passed_on (λ r. mending_outcome (Err (Refused r)) c.args.kept.now c.args.dropped.now c.args.marks.now) c.args.o c.args.k c.args.words.now
    (mending_clauses c.args.words.now c.args.kept.now c.args.dropped.now c.args.marks.now)
    (mending_done (kept_from c.args.o c.args.k [] c.args.words.now) (dropped_from c.args.o c.args.k [] c.args.words.now) c.args.kept.now c.args.dropped.now c.args.marks.now)
    (sym c.in_err-n.ensures))

pub returns : goal.returns
returns c =
    plain_gone_on (λ r. mending_outcome (Err (Refused r)) c.args.kept.now c.args.dropped.now c.args.marks.now) c.args.o c.args.k c.args.words.now
    (mending_clauses c.args.words.now c.args.kept.now c.args.dropped.now c.args.marks.now)
    (mending_done (kept_from c.args.o c.args.k [] c.args.words.now) (dropped_from c.args.o c.args.k [] c.args.words.now) c.args.kept.now c.args.dropped.now c.args.marks.now)
    (sym c.in_ok-n.ensures) c.mend_checked.ensures
