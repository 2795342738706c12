use Prim.Native.Nat.{ℕ, ◌+◌, ◌-◌, ◌*◌}
use mathlib.Core.Path.{sym, ap, ◌∙◌}
use mathlib.Core.List.{List}
use native.Mathlib.Omega.{arith}
use Rattle.rows_steps.specs.Rows.{gain}
use Rattle.rows_steps.specs.Steps.{gather}
use Rattle.rows_steps.proofs.Places.{row_ends}
use Rattle.rows_filling.proofs.Gathered.{gather_go, gather_end}
use Rattle.rows_filling.proofs.gather_rows.Goals as goal

pub loop-x-init : goal.loop-x-init
loop-x-init c =
    ap (λ (j : ℕ). gather c.args.w 0 j c.args.yeses.now c.args.rows.now) (omega arith)

pub overflow_mul-a : goal.overflow_mul-a
overflow_mul-a c =
    omega (arith, row_ends c.args.w c.loop-x.x c.args.n (omega arith))

pub gather_row-requires : goal.gather_row-requires
gather_row-requires c =
    let ends = row_ends c.args.w c.loop-x.x c.args.n (omega arith) in
    (omega (arith, c.requires.0), c.requires.2, omega (arith, c.loop-x.auto.rows, c.requires.1), c.requires.2, λ q. c.requires.3 c.loop-x.x q (omega arith))

pub join_rows-requires : goal.join_rows-requires
join_rows-requires c =
    let ends = row_ends c.args.w c.loop-x.x c.args.n (omega arith) in
    (omega (arith, c.loop-x.auto.rows, c.requires.1), omega (arith, c.gather_row.auto.row, c.requires.2))

pub loop-x-preserved : goal.loop-x-preserved
loop-x-preserved c =
    c.loop-x.invariant
    ∙ gather_go c.args.w c.args.n c.loop-x.x c.args.yeses.now c.loop-x.rows (omega arith)
    ∙ ap (gather c.args.w (c.loop-x.x + 1) (c.args.n - (c.loop-x.x + 1)) c.args.yeses.now)
    (sym (c.join_rows.ensures ∙ ap (λ (q : List ℕ). gain (c.loop-x.x * c.args.w) 0 c.args.w q c.loop-x.rows) c.gather_row.ensures))

pub returns : goal.returns
returns c =
    sym (c.loop-x.invariant ∙ gather_end c.args.w c.args.n c.loop-x.x c.args.yeses.now c.loop-x.rows (omega arith))
