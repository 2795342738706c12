use Prim.Native.Nat.{ℕ, ◌+◌, ◌-◌}
use mathlib.Core.Path.{sym, ap, ◌∙◌}
use Rattle.rows_steps.specs.Steps.{through}
use Rattle.rows_steps.proofs.Places.{row_ends}
use Rattle.rows_links.proofs.Closing.{through_go, through_end}
use native.Mathlib.Omega.{arith}
use Rattle.rows_links.proofs.pass_through.Goals as goal

pub loop-x-init : goal.loop-x-init
loop-x-init c =
    ap (λ (j : ℕ). through c.args.w c.args.m c.args.row.now 0 j c.args.rows.now) (omega arith)

pub overflow_mul-x : goal.overflow_mul-x
overflow_mul-x c =
    omega (arith, row_ends c.args.w c.loop-x.x c.args.n (omega arith))

pub pass_on-requires : goal.pass_on-requires
pass_on-requires c =
    let own = row_ends c.args.w c.loop-x.x c.args.n (omega arith) in
    (omega (arith, c.loop-x.auto.rows), omega arith, omega arith)

pub loop-x-preserved : goal.loop-x-preserved
loop-x-preserved c =
    c.loop-x.invariant ∙ through_go c.args.w c.args.m c.args.row.now c.args.n c.loop-x.x c.loop-x.rows (omega arith)
    ∙ ap (through c.args.w c.args.m c.args.row.now (c.loop-x.x + 1) (c.args.n - (c.loop-x.x + 1))) (sym c.pass_on.ensures)

pub returns : goal.returns
returns c =
    sym (c.loop-x.invariant ∙ through_end c.args.w c.args.m c.args.row.now c.args.n c.loop-x.x c.loop-x.rows (omega arith))
