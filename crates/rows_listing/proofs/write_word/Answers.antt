use Prim.Native.Nat.{◌+◌, ◌-◌}
use lib.Bits.{bit_or, bit_and, or_lt}
use lib.Count.{count_trailing_zeros, trailing_le}
use Rattle.theory.specs.Marks.{has}
use Rattle.rows_steps.specs.Members.{members}
use Rattle.rows_steps.proofs.Members.{next_small, rest_less}
use Rattle.rows_steps.specs.Listing.{pair, word_pairs}
use Rattle.rows_listing.proofs.Written.{written_start, written_long, written_room, part_ends, part_room, written_next, written_end}
use Rattle.rows_listing.proofs.Going.{pairs_go, pairs_end}
use native.Mathlib.Omega.{arith}
use Rattle.rows_listing.proofs.write_word.Goals as goal

pub loop-left-init : goal.loop-left-init
loop-left-init c = (or_lt 64 c.args.some c.args.more c.ranges.some.fits c.ranges.more.fits, written_start)

pub overflow_cast-p : goal.overflow_cast-p
overflow_cast-p c = omega (arith, trailing_le 64 c.loop-left.left)

pub overflow_shr-p : goal.overflow_shr-p
overflow_shr-p c = next_small c.loop-left.left c.loop-left-test.true c.loop-left.invariant.0

pub overflow_cast-q : goal.overflow_cast-q
overflow_cast-q c = omega (arith, trailing_le 64 c.loop-left.left)

pub overflow_shr-q : goal.overflow_shr-q
overflow_shr-q c = next_small c.loop-left.left c.loop-left-test.true c.loop-left.invariant.0

pub overflow_add-base : goal.overflow_add-base
overflow_add-base c = omega (arith, trailing_le 64 c.loop-left.left)

pub offset_bounds-list-at : goal.offset_bounds-list-at
offset_bounds-list-at c =
    let all = word_pairs c.args.x c.args.base c.args.some c.args.more (members (bit_or c.args.some c.args.more)) in
    omega (arith, written_room all c.args.list.now c.requires.2 c.loop-left.invariant.1, written_long all c.args.list.now c.requires.2 c.loop-left.invariant.1)

pub slice_bounds-write_pair-count : goal.slice_bounds-write_pair-count
slice_bounds-write_pair-count c =
    let all = word_pairs c.args.x c.args.base c.args.some c.args.more (members (bit_or c.args.some c.args.more)) in
    omega (arith, written_room all c.args.list.now c.requires.2 c.loop-left.invariant.1, written_long all c.args.list.now c.requires.2 c.loop-left.invariant.1)

pub write_pair-put-requires : goal.write_pair-put-requires
write_pair-put-requires c =
    let t = count_trailing_zeros 64 c.loop-left.left in
    let all = word_pairs c.args.x c.args.base c.args.some c.args.more (members (bit_or c.args.some c.args.more)) in
    let part = pair c.args.x (c.args.base + t) (has t c.args.some) (has t c.args.more) in
    let rest = word_pairs c.args.x c.args.base c.args.some c.args.more (members (bit_and c.loop-left.left (c.loop-left.left - 1))) in
    let more = pairs_go c.loop-left.left c.loop-left-test.true c.loop-left.invariant.0 c.args.x c.args.base c.args.some c.args.more in
    (omega arith, omega (arith, next_small c.loop-left.left c.loop-left-test.true c.loop-left.invariant.0), part_room all c.args.list.now c.requires.2 c.loop-left.invariant.1 part rest more)

pub overflow_add-at : goal.overflow_add-at
overflow_add-at c =
    let t = count_trailing_zeros 64 c.loop-left.left in
    let all = word_pairs c.args.x c.args.base c.args.some c.args.more (members (bit_or c.args.some c.args.more)) in
    let part = pair c.args.x (c.args.base + t) (has t c.args.some) (has t c.args.more) in
    let rest = word_pairs c.args.x c.args.base c.args.some c.args.more (members (bit_and c.loop-left.left (c.loop-left.left - 1))) in
    let more = pairs_go c.loop-left.left c.loop-left-test.true c.loop-left.invariant.0 c.args.x c.args.base c.args.some c.args.more in
    omega (arith, part_ends all c.args.list.now c.requires.2 c.loop-left.invariant.1 part rest more, written_long all c.args.list.now c.requires.2 c.loop-left.invariant.1, c.write_pair-put.ensures.size)

pub overflow_sub-left : goal.overflow_sub-left
overflow_sub-left c = omega arith

pub loop-left-smaller : goal.loop-left-smaller
loop-left-smaller c =
    rest_less c.loop-left.left c.loop-left-test.true c.loop-left.invariant.0

pub loop-left-preserved : goal.loop-left-preserved
loop-left-preserved c =
    let t = count_trailing_zeros 64 c.loop-left.left in
    let all = word_pairs c.args.x c.args.base c.args.some c.args.more (members (bit_or c.args.some c.args.more)) in
    let part = pair c.args.x (c.args.base + t) (has t c.args.some) (has t c.args.more) in
    let rest = word_pairs c.args.x c.args.base c.args.some c.args.more (members (bit_and c.loop-left.left (c.loop-left.left - 1))) in
    let more = pairs_go c.loop-left.left c.loop-left-test.true c.loop-left.invariant.0 c.args.x c.args.base c.args.some c.args.more in (
      omega (arith, rest_less c.loop-left.left c.loop-left-test.true c.loop-left.invariant.0),
      written_next all c.args.list.now c.requires.2 c.loop-left.invariant.1 part rest more c.write_pair-put.result c.write_pair-put.new.list c.write_pair-put.ensures.size c.write_pair-put.ensures.written,
    )

pub returns : goal.returns
returns c =
    let e = written_end (word_pairs c.args.x c.args.base c.args.some c.args.more (members (bit_or c.args.some c.args.more))) c.args.list.now c.requires.2 c.loop-left.invariant.1
    (pairs_end c.args.x c.args.base c.args.some c.args.more c.loop-left.left c.loop-left-test.false) in
    record { size = e.0; written = e.1 }
