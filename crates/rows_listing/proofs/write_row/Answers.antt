use Prim.Native.Nat.{ℕ, ◌+◌, ◌-◌, ◌*◌}
use mathlib.Core.Path.{◌≡◌, subst}
use lib.ListN.{get_or}
use lib.Bits.{bit_or}
use Rattle.rows_steps.specs.Members.{members}
use Rattle.rows_steps.specs.Listing.{word_pairs, row_pairs}
use Rattle.rows_listing.proofs.Written.{Written, written_start, written_long, written_room, part_ends, part_room, written_next, written_end}
use Rattle.rows_listing.proofs.Going.{row_go, row_end}
use native.Mathlib.Omega.{arith}
use Rattle.rows_listing.proofs.write_row.Goals as goal

pub loop-i-init : goal.loop-i-init
loop-i-init c =
    let e : c.args.w ≡ c.args.w - 0 = omega arith in
    let all = row_pairs c.args.x c.args.a 0 c.args.w c.args.yeses.now c.args.noes.now in
    subst (λ (j : ℕ). Written all (row_pairs c.args.x c.args.a 0 j c.args.yeses.now c.args.noes.now) c.args.list.now c.args.list.now 0) e written_start

pub offset_bounds-list-at : goal.offset_bounds-list-at
offset_bounds-list-at c =
    let all = row_pairs c.args.x c.args.a 0 c.args.w c.args.yeses.now c.args.noes.now in
    omega (arith, written_room all c.args.list.now c.requires.4 c.loop-i.invariant, written_long all c.args.list.now c.requires.4 c.loop-i.invariant)

pub slice_bounds-write_word-count : goal.slice_bounds-write_word-count
slice_bounds-write_word-count c =
    let all = row_pairs c.args.x c.args.a 0 c.args.w c.args.yeses.now c.args.noes.now in
    omega (arith, written_room all c.args.list.now c.requires.4 c.loop-i.invariant, written_long all c.args.list.now c.requires.4 c.loop-i.invariant)

pub write_word-put-requires : goal.write_word-put-requires
write_word-put-requires c =
    let all = row_pairs c.args.x c.args.a 0 c.args.w c.args.yeses.now c.args.noes.now in
    let part = word_pairs c.args.x (c.loop-i.i * 64) (get_or c.args.yeses.now (c.args.a + c.loop-i.i) 0) (get_or c.args.noes.now (c.args.a + c.loop-i.i) 0) (members (bit_or (get_or c.args.yeses.now (c.args.a + c.loop-i.i) 0) (get_or c.args.noes.now (c.args.a + c.loop-i.i) 0))) in
    let rest = row_pairs c.args.x c.args.a (c.loop-i.i + 1) (c.args.w - (c.loop-i.i + 1)) c.args.yeses.now c.args.noes.now in
    let more = row_go c.args.x c.args.a c.args.w c.loop-i.i c.args.yeses.now c.args.noes.now (omega arith) in
    (omega (arith, c.requires.0), omega arith, part_room all c.args.list.now c.requires.4 c.loop-i.invariant part rest more)

pub overflow_add-at : goal.overflow_add-at
overflow_add-at c =
    let all = row_pairs c.args.x c.args.a 0 c.args.w c.args.yeses.now c.args.noes.now in
    let part = word_pairs c.args.x (c.loop-i.i * 64) (get_or c.args.yeses.now (c.args.a + c.loop-i.i) 0) (get_or c.args.noes.now (c.args.a + c.loop-i.i) 0) (members (bit_or (get_or c.args.yeses.now (c.args.a + c.loop-i.i) 0) (get_or c.args.noes.now (c.args.a + c.loop-i.i) 0))) in
    let rest = row_pairs c.args.x c.args.a (c.loop-i.i + 1) (c.args.w - (c.loop-i.i + 1)) c.args.yeses.now c.args.noes.now in
    let more = row_go c.args.x c.args.a c.args.w c.loop-i.i c.args.yeses.now c.args.noes.now (omega arith) in
    omega (arith, part_ends all c.args.list.now c.requires.4 c.loop-i.invariant part rest more, written_long all c.args.list.now c.requires.4 c.loop-i.invariant, c.write_word-put.ensures.size)

pub loop-i-preserved : goal.loop-i-preserved
loop-i-preserved c =
    let all = row_pairs c.args.x c.args.a 0 c.args.w c.args.yeses.now c.args.noes.now in
    let part = word_pairs c.args.x (c.loop-i.i * 64) (get_or c.args.yeses.now (c.args.a + c.loop-i.i) 0) (get_or c.args.noes.now (c.args.a + c.loop-i.i) 0) (members (bit_or (get_or c.args.yeses.now (c.args.a + c.loop-i.i) 0) (get_or c.args.noes.now (c.args.a + c.loop-i.i) 0))) in
    let rest = row_pairs c.args.x c.args.a (c.loop-i.i + 1) (c.args.w - (c.loop-i.i + 1)) c.args.yeses.now c.args.noes.now in
    let more = row_go c.args.x c.args.a c.args.w c.loop-i.i c.args.yeses.now c.args.noes.now (omega arith) in
    written_next all c.args.list.now c.requires.4 c.loop-i.invariant part rest more c.write_word-put.result c.write_word-put.new.list c.write_word-put.ensures.size c.write_word-put.ensures.written

pub returns : goal.returns
returns c =
    let e = written_end (row_pairs c.args.x c.args.a 0 c.args.w c.args.yeses.now c.args.noes.now) c.args.list.now c.requires.4 c.loop-i.invariant (row_end c.args.x c.args.a c.args.w c.loop-i.i c.args.yeses.now c.args.noes.now (omega arith)) in
    record { size = e.0; written = e.1 }
