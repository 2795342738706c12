use Prim.Native.Nat.{ℕ, ◌-◌}
use mathlib.Core.Path.{◌≡◌, ap}
use lib.ListN.{length}
use Rattle.rows_steps.specs.Listing.{all_pairs}
use Rattle.rows_steps.proofs.Places.{row_ends}
use Rattle.rows_listing.proofs.Going.{all_end, count_go}
use native.Mathlib.Omega.{arith}
use Rattle.rows_listing.proofs.count_words.Goals as goal

pub loop-x-init : goal.loop-x-init
loop-x-init c =
    let e : c.args.n - 0 ≡ c.args.n = omega arith in
    (omega (arith, ap (λ (j : ℕ). length (all_pairs c.args.w 0 j c.args.yeses.now c.args.noes.now)) e), omega arith)

pub overflow_mul-a : goal.overflow_mul-a
overflow_mul-a c =
    omega (arith, row_ends c.args.w c.loop-x.x c.args.n (omega arith))

pub row_size-some-requires : goal.row_size-some-requires
row_size-some-requires c =
    (omega (arith, row_ends c.args.w c.loop-x.x c.args.n (omega arith)), omega arith)

pub row_size-more-requires : goal.row_size-more-requires
row_size-more-requires c =
    (omega (arith, row_ends c.args.w c.loop-x.x c.args.n (omega arith), c.requires.3), c.requires.1)

pub overflow_add-size : goal.overflow_add-size
overflow_add-size c = omega (arith, c.row_size-some.ensures.1, c.row_size-more.ensures.1)

pub overflow_add-size-in-loop-x : goal.overflow_add-size-in-loop-x
overflow_add-size-in-loop-x c = omega (arith, c.row_size-some.ensures.1, c.row_size-more.ensures.1)

pub loop-x-preserved : goal.loop-x-preserved
loop-x-preserved c =
    let next = count_go c.args.w c.args.n c.loop-x.x c.args.yeses.now c.args.noes.now (omega arith) (λ i. (c.type_inv.yeses i).fits) (λ i. (c.type_inv.noes i).fits) in
    (omega (arith, c.row_size-some.ensures.0, c.row_size-more.ensures.0, next), omega (arith, c.row_size-some.ensures.1, c.row_size-more.ensures.1))

pub returns : goal.returns
returns c =
    omega (arith, ap length (all_end c.args.w c.args.n c.loop-x.x c.args.yeses.now c.args.noes.now (omega arith)))
