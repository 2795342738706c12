use native.Mathlib.Omega.{arith}
use lib.ListN.{get_or}
use Rattle.fleet_line.proofs.Left.{left_start, left_room, left_next, left_end}
use Rattle.fleet_line.proofs.Lines.{numbers_go, numbers_end, number_short}
use Rattle.fleet_line.proofs.put_numbers.Goals as goal

pub loop-i-init : goal.loop-i-init
loop-i-init c = (omega arith, left_start)

pub slice_bounds-put_wide-count : goal.slice_bounds-put_wide-count
slice_bounds-put_wide-count c =
    let so = left_room c.loop-i.invariant.1 (omega arith) in
    omega (arith, so.1.0)

pub put_wide-at-requires : goal.put_wide-at-requires
put_wide-at-requires c =
    let so = left_room c.loop-i.invariant.1 (omega arith) in
    omega (arith, so.1.1, c.loop-i.invariant.1.wrote.size)

pub overflow_add-at : goal.overflow_add-at
overflow_add-at c =
    let short = number_short (get_or c.args.numbers.now c.loop-i.i 0) c.after_number-after.result in
    omega (arith, c.put_wide-at.ensures.size, short)

pub loop-i-preserved : goal.loop-i-preserved
loop-i-preserved c =
    let short = number_short (get_or c.args.numbers.now c.loop-i.i 0) c.after_number-after.result in (
      omega (arith, c.put_wide-at.ensures.size, short),
      left_next c.loop-i.invariant.1 (omega arith) (numbers_go c.args.numbers.now c.loop-i.i c.after_number-after.result (omega arith) c.after_number-after.ensures) c.put_wide-at.ensures,
    )

pub returns : goal.returns
returns c =
    left_end c.loop-i.invariant.1 (omega arith) (numbers_end c.args.numbers.now c.loop-i.i (omega arith))
