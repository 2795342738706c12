-- The check's refusal is passed on, and its net is searched.
use Rattle.std.specs.Prelude.{Err}
use Rattle.std.proofs.lemmas.Result.{err_from_is_err_and}
use mathlib.Core.Path.{sym}
use Rattle.theory.specs.Origins.{chosen}
use Rattle.net.proofs.OnNet.{passed_on, gone_on}
use Rattle.net.proofs.NetCheck.{chosen_checked}
use Rattle.clash.specs.Table.{clash_outcome, clash_search, clash_clauses, clash_done}
use Rattle.clash.proofs.find_clash.Goals as goal

pub clash_net-requires : goal.clash_net-requires
clash_net-requires c =
    let t = chosen_checked c.args.o c.args.k c.args.words.now c.args.set (sym c.in_ok-n.ensures) in
    record { net = t.1; size = t.0 }

pub returns-in_err-n : goal.returns-in_err-n
returns-in_err-n c =
    let found = clash_search c.args.o c.args.k (chosen c.args.set c.args.words.now) in
    let p = err_from_is_err_and c.from_residual.result c.from_residual.ensures.1 in
    rw (p.1, p.2)
    (passed_on (λ r. clash_outcome (Err r) c.args.marks.now) c.args.o c.args.k c.args.words.now c.args.set (clash_clauses found c.args.marks.now)
    (clash_done found c.args.marks.now) (sym c.in_err-n.ensures))

pub returns : goal.returns
returns c =
    let found = clash_search c.args.o c.args.k (chosen c.args.set c.args.words.now) in
    gone_on (λ r. clash_outcome (Err r) c.args.marks.now) c.args.o c.args.k c.args.words.now c.args.set (clash_clauses found c.args.marks.now)
    (clash_done found c.args.marks.now) (sym c.in_ok-n.ensures) c.clash_net.ensures
