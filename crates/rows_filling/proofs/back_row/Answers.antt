use Prim.Native.Nat.{◌+◌, ◌-◌}
use mathlib.Core.Path.{refl, sym, ap, ◌∙◌}
use native.Mathlib.Omega.{arith}
use borrow.Author.Tests.{not-true}
use Rattle.rows_steps.specs.Steps.{back_row}
use Rattle.rows_steps.proofs.Places.{row_ends}
use Rattle.rows_filling.proofs.Backwards.{empty_stays, back_row_go, back_row_end}
use Rattle.rows_filling.proofs.back_row.Goals as goal

pub returns-then-not-rows_meet : goal.returns-then-not-rows_meet
returns-then-not-rows_meet c =
    empty_stays c.args.w c.args.a c.args.o (c.args.n - c.args.o) c.args.yeses.now c.args.rows.now (sym c.rows_meet.ensures ∙ not-true c.rows_meet.result c.if-not-rows_meet.true-raw)

pub loop-y-init : goal.loop-y-init
loop-y-init c = refl

pub overflow_mul-y : goal.overflow_mul-y
overflow_mul-y c =
    omega (arith, row_ends c.args.w c.loop-y.y c.args.n (omega arith))

pub back_bit-requires : goal.back_bit-requires
back_bit-requires c =
    let ends = row_ends c.args.w c.loop-y.y c.args.n (omega arith) in
    (omega (arith, c.requires.2), omega (arith, c.loop-y.auto.rows, c.requires.3), omega (arith, c.requires.1, c.loop-y.auto.y-end))

pub loop-y-preserved : goal.loop-y-preserved
loop-y-preserved c =
    c.loop-y.invariant
    ∙ back_row_go c.args.w c.args.a c.args.n c.loop-y.y c.args.yeses.now c.loop-y.rows (omega arith)
    ∙ ap (back_row c.args.w c.args.a (c.loop-y.y + 1) (c.args.n - (c.loop-y.y + 1)) c.args.yeses.now) (sym c.back_bit.ensures)

pub returns : goal.returns
returns c =
    sym (c.loop-y.invariant ∙ back_row_end c.args.w c.args.a c.args.n c.loop-y.y c.args.yeses.now c.loop-y.rows (omega arith))
