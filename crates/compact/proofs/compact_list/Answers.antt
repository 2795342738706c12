use Rattle.std.proofs.lemmas.Result.{err_from_is_err_and}
use Rattle.std.specs.Prelude.{Err}
use mathlib.Core.Path.{sym}
use Rattle.theory.specs.Compaction.{compacted}
use Rattle.net.proofs.OnNet.{plain_passed_on, plain_gone_on}
use Rattle.net.proofs.NetCheck.{plain_checked}
use Rattle.compact.specs.Table.{compaction_outcome, compaction_clauses, compaction_done}
use Rattle.compact.proofs.compact_list.Goals as goal

pub compact_checked-requires : goal.compact_checked-requires
compact_checked-requires c =
    let t = plain_checked c.args.o c.args.k c.args.list.now (sym c.in_ok-n.ensures) in
    record {
      net = t.1;
      size = t.0;
    }

pub returns-in_err-n : goal.returns-in_err-n
returns-in_err-n c =
    let p = err_from_is_err_and c.from_residual.result c.from_residual.ensures.1 in
    rw (p.1, p.2)
    (plain_passed_on (λ r. compaction_outcome (Err r) c.args.list.now c.args.marks.now) c.args.o c.args.k c.args.list.now (compaction_clauses c.args.list.now c.args.marks.now)
    (compaction_done (compacted c.args.o c.args.k c.args.list.now) c.args.list.now c.args.marks.now) (sym c.in_err-n.ensures))

pub returns : goal.returns
returns c =
    plain_gone_on (λ r. compaction_outcome (Err r) c.args.list.now c.args.marks.now) c.args.o c.args.k c.args.list.now (compaction_clauses c.args.list.now c.args.marks.now)
    (compaction_done (compacted c.args.o c.args.k c.args.list.now) c.args.list.now c.args.marks.now) (sym c.in_ok-n.ensures) c.compact_checked.ensures
