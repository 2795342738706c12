use Rattle.std.proofs.lemmas.Result.{err_from_is_err_and}
use mathlib.Core.Path.{refl, sym}
use native.Mathlib.Omega.{arith}
use lib.ListN.{length}
use Rattle.net.proofs.Checks.{sizes_leave, net_refused, net_bad_set, net_stops, net_ends}
use Rattle.net.proofs.check_net.Goals as goal

pub returns-in_err-n : goal.returns-in_err-n
returns-in_err-n c =
    let p = err_from_is_err_and c.from_residual.result c.from_residual.ensures.1 in rw (p.1, p.2) (net_refused c.args.o c.args.k c.args.words.now c.in_err-n.ensures c.args.set refl)

pub returns-then-set-gt-SET_LIMIT : goal.returns-then-set-gt-SET_LIMIT
returns-then-set-gt-SET_LIMIT c =
    net_bad_set c.args.o c.args.k c.args.words.now c.in_ok-n.ensures c.args.set refl c.if-set-gt-SET_LIMIT.true

pub overflow_cast-i : goal.overflow_cast-i
overflow_cast-i c =
    omega (arith, sizes_leave c.args.o c.args.k (length c.args.words.now) (sym c.in_ok-n.ensures))

pub returns-then-i-words : goal.returns-then-i-words
returns-then-i-words c =
    net_stops c.args.o c.args.k c.args.words.now c.in_ok-n.ensures c.args.set refl (omega arith) c.first_illegal-i.ensures (omega arith) c.refuse_word.ensures

pub returns : goal.returns
returns c =
    net_ends c.args.o c.args.k c.args.words.now c.in_ok-n.ensures c.args.set refl (omega arith) c.first_illegal-i.ensures (omega arith)
