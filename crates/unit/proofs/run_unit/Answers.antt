use Rattle.unit.specs.declared.UnitError.TheVariants.{Refused}
use Rattle.std.specs.Prelude.{Err}
use Rattle.std.proofs.lemmas.Result.{err_from_is_err_and}
use mathlib.Core.Path.{sym}
use Rattle.theory.specs.Origins.{chosen}
use Rattle.net.proofs.OnNet.{passed_on, gone_on}
use Rattle.unit.specs.Table.{unit_outcome, unit_clauses, unit_done}
use Rattle.unit.proofs.Outcomes.{checked_inside}
use Rattle.unit.proofs.run_unit.Goals as goal

pub run_net-requires : goal.run_net-requires
run_net-requires c =
    let t = checked_inside c.args.o c.args.k c.args.words.now c.args.set _ (sym c.in_ok-n.ensures) in
    record { inside = t.0; few = t.1 }

pub returns-in_err-n : goal.returns-in_err-n
returns-in_err-n c =
    let p = err_from_is_err_and c.from_residual.result c.from_residual.ensures.1 in
    rw (p.1, p.2)
    (passed_on (λ r. unit_outcome (Err (Refused r)) c.args.marks.now) c.args.o c.args.k c.args.words.now c.args.set
    (unit_clauses (chosen c.args.set c.args.words.now) c.args.program.now c.args.budget c.args.marks.now)
    (unit_done (chosen c.args.set c.args.words.now) c.args.program.now c.args.budget c.args.marks.now) (sym c.in_err-n.ensures))

pub returns : goal.returns
returns c =
    gone_on (λ r. unit_outcome (Err (Refused r)) c.args.marks.now) c.args.o c.args.k c.args.words.now c.args.set
    (unit_clauses (chosen c.args.set c.args.words.now) c.args.program.now c.args.budget c.args.marks.now)
    (unit_done (chosen c.args.set c.args.words.now) c.args.program.now c.args.budget c.args.marks.now) (sym c.in_ok-n.ensures)
    c.run_net.ensures
