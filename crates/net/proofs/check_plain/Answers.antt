use Rattle.std.proofs.lemmas.Result.{err_from_is_err_and}
use mathlib.Core.Path.{refl, sym}
use native.Mathlib.Omega.{arith}
use lib.ListN.{length}
use Rattle.net.proofs.Checks.{sizes_leave, plain_refused, plain_stops, plain_ends}
use Rattle.net.proofs.check_plain.Goals as goal

pub returns-in_err-n : goal.returns-in_err-n
returns-in_err-n c =
    let p = err_from_is_err_and c.from_residual.result c.from_residual.ensures.1 in rw (p.1, p.2) (plain_refused c.args.o c.args.k c.args.words.now c.in_err-n.ensures refl)

pub overflow_cast-i : goal.overflow_cast-i
overflow_cast-i c =
    omega (arith, sizes_leave c.args.o c.args.k (length c.args.words.now) (sym c.in_ok-n.ensures))

pub returns-then-i-words : goal.returns-then-i-words
returns-then-i-words c =
    plain_stops c.args.o c.args.k c.args.words.now c.in_ok-n.ensures refl c.first_illegal-i.ensures (omega arith) c.refuse_plain.ensures

pub returns : goal.returns
returns c =
    plain_ends c.args.o c.args.k c.args.words.now c.in_ok-n.ensures refl c.first_illegal-i.ensures (omega arith)
