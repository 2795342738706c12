use native.Mathlib.Omega.{arith}
use borrow.Author.Tests.{not-true, not-false}
use Rattle.unit_gather.proofs.Gathering.{far_inside, gather_not, gather_new}
use Rattle.unit_gather.proofs.gather_one.Goals as goal

pub returns-then-not-fires_on : goal.returns-then-not-fires_on
returns-then-not-fires_on c =
    gather_not c.args.set c.args.c c.args.word c.args.marks.now c.args.aside.now c.fires_on.ensures (not-true c.fires_on.result c.if-not-fires_on.true-raw)

pub bounds-aside-place : goal.bounds-aside-place
bounds-aside-place c =
    omega (arith, far_inside c.args.c.at_head c.requires.ends c.plain_of-plain.ensures c.far_of-far.ensures, c.requires.few, c.requires.size)

pub bounds-aside-place-2 : goal.bounds-aside-place-2
bounds-aside-place-2 c =
    omega (arith, far_inside c.args.c.at_head c.requires.ends c.plain_of-plain.ensures c.far_of-far.ensures, c.requires.few, c.requires.size)

pub returns : goal.returns
returns c =
    gather_new c.args.set c.args.c c.args.word c.args.marks.now c.args.aside.now c.fires_on.ensures (not-false c.fires_on.result c.if-not-fires_on.false-raw) c.plain_of-plain.ensures
    c.far_of-far.ensures c.bit_of.ensures
