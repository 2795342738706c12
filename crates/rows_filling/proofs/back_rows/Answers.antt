use Prim.Native.Nat.{ℕ, ◌+◌, ◌-◌}
use mathlib.Core.Path.{sym, ap, ◌∙◌}
use Rattle.rows_steps.specs.Steps.{back}
use Rattle.rows_steps.proofs.Places.{row_ends}
use Rattle.rows_filling.proofs.Backwards.{back_go, back_end}
use native.Mathlib.Omega.{arith}
use Rattle.rows_filling.proofs.back_rows.Goals as goal

pub loop-x-init : goal.loop-x-init
loop-x-init c =
    ap (λ (j : ℕ). back c.args.w c.args.o (c.args.n - c.args.o) 0 j c.args.yeses.now c.args.rows.now) (omega arith)

pub overflow_mul-x : goal.overflow_mul-x
overflow_mul-x c =
    omega (arith, row_ends c.args.w c.loop-x.x c.args.n (omega arith))

pub back_row-requires : goal.back_row-requires
back_row-requires c =
    let ends = row_ends c.args.w c.loop-x.x c.args.n (omega arith) in
    (omega arith, omega arith, omega arith, omega (arith, c.loop-x.auto.rows))

pub loop-x-preserved : goal.loop-x-preserved
loop-x-preserved c =
    c.loop-x.invariant ∙ back_go c.args.w c.args.o (c.args.n - c.args.o) c.args.n c.loop-x.x c.args.yeses.now c.loop-x.rows (omega arith)
    ∙ ap (back c.args.w c.args.o (c.args.n - c.args.o) (c.loop-x.x + 1) (c.args.n - (c.loop-x.x + 1)) c.args.yeses.now) (sym c.back_row.ensures)

pub returns : goal.returns
returns c =
    sym (c.loop-x.invariant ∙ back_end c.args.w c.args.o (c.args.n - c.args.o) c.args.n c.loop-x.x c.args.yeses.now c.loop-x.rows (omega arith))
