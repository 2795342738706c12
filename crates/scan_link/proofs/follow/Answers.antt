-- The word opens some lanes, and their marks are put, or none, and nothing is done.
use native.Mathlib.Omega.{arith}
use lib.ListN.{length-set}
use Rattle.scan_link.proofs.Following.{head_inside, found_few, follow_idle, follow_puts}
use Rattle.scan_link.proofs.follow.Goals as goal

pub bounds-marks-head-then-open-ne0 : goal.bounds-marks-head-then-open-ne0
bounds-marks-head-then-open-ne0 c =
    simp length-set (omega (arith, c.requires.room, head_inside c.requires.ends c.plain_of-plain.ensures c.head_of-head.ensures))

pub overflow_mul-marks-then-open-ne0 : goal.overflow_mul-marks-then-open-ne0
overflow_mul-marks-then-open-ne0 c =
    omega (
      arith,
      found_few c.args.word c.args.marks.now c.plain_of-plain.ensures c.tail_of-tail.ensures c.head_of-head.ensures
          c.args.lanes.now.set c.args.lanes.now.sign c.lanes_of.ensures,
    )

pub returns-then-open-ne0 : goal.returns-then-open-ne0
returns-then-open-ne0 c =
    follow_puts c.args.word c.args.marks.now c.plain_of-plain.ensures c.tail_of-tail.ensures c.head_of-head.ensures
    c.args.lanes.now.set c.args.lanes.now.sign c.lanes_of.ensures c.if-open-ne0.true

pub returns-else-open-ne0 : goal.returns-else-open-ne0
returns-else-open-ne0 c =
    follow_idle c.args.word c.args.marks.now c.plain_of-plain.ensures c.tail_of-tail.ensures c.head_of-head.ensures
    c.args.lanes.now.set c.args.lanes.now.sign c.lanes_of.ensures c.if-open-ne0.false
