-- Each return is one case of the test.
use Prim.Native.Nat.{◌+◌, ◌-◌, ◌*◌, ◌<◌}
use native.Mathlib.Omega.{arith}
use lib.ListN.{length}
use Rattle.theory.proofs.valuation.Tables.{place_in}
use Rattle.satisfies.proofs.Outcomes.{object_is, object_isnt, kind_holds}
use Rattle.satisfies.proofs.holds_in.Goals as goal

pub overflow_mul-byte : goal.overflow_mul-byte
overflow_mul-byte c =
    let place : c.args.x * c.args.k + (c.args.y - c.args.o) < length c.args.table.now =
    place_in c.args.k c.args.n (length c.args.table.now) c.args.x (c.args.y - c.args.o) c.requires.2 (omega (arith, c.requires.0, c.requires.3, c.requires.4)) c.requires.5 in
    omega (arith, place)

pub overflow_add-byte : goal.overflow_add-byte
overflow_add-byte c =
    let place : c.args.x * c.args.k + (c.args.y - c.args.o) < length c.args.table.now =
    place_in c.args.k c.args.n (length c.args.table.now) c.args.x (c.args.y - c.args.o) c.requires.2 (omega (arith, c.requires.0, c.requires.3, c.requires.4)) c.requires.5 in
    omega (arith, place)

pub bounds-table-subject : goal.bounds-table-subject
bounds-table-subject c =
    let place : c.args.x * c.args.k + (c.args.y - c.args.o) < length c.args.table.now =
    place_in c.args.k c.args.n (length c.args.table.now) c.args.x (c.args.y - c.args.o) c.requires.2 (omega (arith, c.requires.0, c.requires.3, c.requires.4)) c.requires.5 in
    place

pub returns-then-sign-eq0 : goal.returns-then-sign-eq0
returns-then-sign-eq0 c =
    object_is c.args.o c.args.k c.args.table.now c.args.x c.args.y c.args.sign c.if-x-o.true c.if-sign-eq0.true c.has_t.ensures

pub returns-then-x-o : goal.returns-then-x-o
returns-then-x-o c =
    object_isnt c.args.o c.args.k c.args.table.now c.args.x c.args.y c.args.sign c.if-x-o.true c.if-sign-eq0.false c.has_f.ensures

pub returns : goal.returns
returns c =
    kind_holds c.args.o c.args.k c.args.table.now c.args.x c.args.y c.args.sign c.args.n c.if-x-o.false c.requires.0 c.agree_everywhere.ensures
