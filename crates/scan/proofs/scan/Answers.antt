-- The check's refusal is passed on, and its net is scanned.
use Rattle.scan.specs.declared.ScanError.TheVariants.{Refused}
use Rattle.std.proofs.lemmas.Result.{err_from_is_err_and}
use Rattle.std.specs.Prelude.{Err}
use mathlib.Core.Path.{sym}
use Rattle.theory.specs.Origins.{chosen}
use Rattle.net.proofs.OnNet.{passed_on, gone_on}
use Rattle.scan.specs.Table.{scan_outcome, scan_clauses, scan_done}
use Rattle.scan.proofs.Outcomes.{checked_inside}
use Rattle.scan.proofs.scan.Goals as goal

pub scan_net-requires : goal.scan_net-requires
scan_net-requires c =
    let net = checked_inside c.args.o c.args.k c.args.words.now c.args.set _ (sym c.in_ok-n.ensures) in
    record { inside = net.0; few = net.1 }

pub returns-in_err-n : goal.returns-in_err-n
returns-in_err-n c =
    let p = err_from_is_err_and c.from_residual.result c.from_residual.ensures.1 in
    rw (p.1, p.2)
    (passed_on (λ r. scan_outcome (Err (Refused r)) c.args.marks.now) c.args.o c.args.k c.args.words.now c.args.set
    (scan_clauses (chosen c.args.set c.args.words.now) c.args.start c.args.budget c.args.marks.now)
    (scan_done (chosen c.args.set c.args.words.now) c.args.start c.args.budget c.args.marks.now) (sym c.in_err-n.ensures))

pub returns : goal.returns
returns c =
    gone_on (λ r. scan_outcome (Err (Refused r)) c.args.marks.now) c.args.o c.args.k c.args.words.now c.args.set
    (scan_clauses (chosen c.args.set c.args.words.now) c.args.start c.args.budget c.args.marks.now)
    (scan_done (chosen c.args.set c.args.words.now) c.args.start c.args.budget c.args.marks.now) (sym c.in_ok-n.ensures)
    c.scan_net.ensures
