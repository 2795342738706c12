use Prim.Native.Nat.{ℕ, ◌+◌, ◌-◌, ◌*◌}
use mathlib.Core.Path.{◌≡◌, subst}
use Rattle.rows_steps.specs.Listing.{row_pairs, all_pairs}
use Rattle.rows_steps.proofs.Places.{row_ends}
use Rattle.rows_listing.proofs.Written.{Written, written_start, written_long, written_room, part_ends, part_room, written_next, written_end}
use Rattle.rows_listing.proofs.Going.{all_go, all_end}
use native.Mathlib.Omega.{arith}
use Rattle.rows_listing.proofs.write_rows.Goals as goal

pub loop-x-init : goal.loop-x-init
loop-x-init c =
    let e : c.args.n ≡ c.args.n - 0 = omega arith in
    let all = all_pairs c.args.w 0 c.args.n c.args.yeses.now c.args.noes.now in
    subst (λ (j : ℕ). Written all (all_pairs c.args.w 0 j c.args.yeses.now c.args.noes.now) c.args.list.now c.args.list.now 0) e written_start

pub overflow_cast-x : goal.overflow_cast-x
overflow_cast-x c = omega arith

pub overflow_mul-x : goal.overflow_mul-x
overflow_mul-x c =
    omega (arith, row_ends c.args.w c.loop-x.x c.args.n (omega arith), c.requires.2)

pub offset_bounds-list-at : goal.offset_bounds-list-at
offset_bounds-list-at c =
    let all = all_pairs c.args.w 0 c.args.n c.args.yeses.now c.args.noes.now in
    omega (arith, written_room all c.args.list.now c.requires.4 c.loop-x.invariant, written_long all c.args.list.now c.requires.4 c.loop-x.invariant)

pub slice_bounds-write_row-count : goal.slice_bounds-write_row-count
slice_bounds-write_row-count c =
    let all = all_pairs c.args.w 0 c.args.n c.args.yeses.now c.args.noes.now in
    omega (arith, written_room all c.args.list.now c.requires.4 c.loop-x.invariant, written_long all c.args.list.now c.requires.4 c.loop-x.invariant)

pub write_row-put-requires : goal.write_row-put-requires
write_row-put-requires c =
    let all = all_pairs c.args.w 0 c.args.n c.args.yeses.now c.args.noes.now in
    let part = row_pairs c.loop-x.x (c.loop-x.x * c.args.w) 0 c.args.w c.args.yeses.now c.args.noes.now in
    let rest = all_pairs c.args.w (c.loop-x.x + 1) (c.args.n - (c.loop-x.x + 1)) c.args.yeses.now c.args.noes.now in
    let more = all_go c.args.w c.args.n c.loop-x.x c.args.yeses.now c.args.noes.now (omega arith) in
    let ends = row_ends c.args.w c.loop-x.x c.args.n (omega arith) in
    (omega arith, c.requires.1, omega (arith, ends, c.requires.2), omega (arith, ends, c.requires.3), part_room all c.args.list.now c.requires.4 c.loop-x.invariant part rest more)

pub overflow_add-at : goal.overflow_add-at
overflow_add-at c =
    let all = all_pairs c.args.w 0 c.args.n c.args.yeses.now c.args.noes.now in
    let part = row_pairs c.loop-x.x (c.loop-x.x * c.args.w) 0 c.args.w c.args.yeses.now c.args.noes.now in
    let rest = all_pairs c.args.w (c.loop-x.x + 1) (c.args.n - (c.loop-x.x + 1)) c.args.yeses.now c.args.noes.now in
    let more = all_go c.args.w c.args.n c.loop-x.x c.args.yeses.now c.args.noes.now (omega arith) in
    omega (arith, part_ends all c.args.list.now c.requires.4 c.loop-x.invariant part rest more, written_long all c.args.list.now c.requires.4 c.loop-x.invariant, c.write_row-put.ensures.size)

pub loop-x-preserved : goal.loop-x-preserved
loop-x-preserved c =
    let all = all_pairs c.args.w 0 c.args.n c.args.yeses.now c.args.noes.now in
    let part = row_pairs c.loop-x.x (c.loop-x.x * c.args.w) 0 c.args.w c.args.yeses.now c.args.noes.now in
    let rest = all_pairs c.args.w (c.loop-x.x + 1) (c.args.n - (c.loop-x.x + 1)) c.args.yeses.now c.args.noes.now in
    let more = all_go c.args.w c.args.n c.loop-x.x c.args.yeses.now c.args.noes.now (omega arith) in
    written_next all c.args.list.now c.requires.4 c.loop-x.invariant part rest more c.write_row-put.result c.write_row-put.new.list c.write_row-put.ensures.size c.write_row-put.ensures.written

pub returns : goal.returns
returns c =
    (written_end (all_pairs c.args.w 0 c.args.n c.args.yeses.now c.args.noes.now) c.args.list.now c.requires.4 c.loop-x.invariant (all_end c.args.w c.args.n c.loop-x.x c.args.yeses.now c.args.noes.now (omega arith))).1
