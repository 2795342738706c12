use Prim.Native.Nat.{ℕ, ◌+◌, ◌-◌}
use mathlib.Core.Path.{refl, sym, ap, ◌∙◌}
use mathlib.Core.List.{List}
use native.Mathlib.Omega.{arith}
use Rattle.rows_steps.specs.Steps.{through, middles}
use Rattle.rows_steps.proofs.Places.{row_ends}
use Rattle.rows_links.proofs.Closing.{middles_go, middles_end}
use Rattle.rows_links.proofs.close_rows.Goals as goal

pub loop-m-init : goal.loop-m-init
loop-m-init c = refl

pub overflow_mul-m : goal.overflow_mul-m
overflow_mul-m c =
    omega (arith, row_ends c.args.w c.loop-m.m c.args.n (omega arith))

pub join_rows-requires : goal.join_rows-requires
join_rows-requires c =
    (omega arith, omega (arith, row_ends c.args.w c.loop-m.m c.args.n (omega arith)))

pub pass_through-requires : goal.pass_through-requires
pass_through-requires c =
    (omega arith, c.requires.1, omega (arith, c.loop-m.auto.rows, c.requires.3), omega (arith, c.join_rows.auto.rows, c.requires.2))

pub loop-m-preserved : goal.loop-m-preserved
loop-m-preserved c =
    c.loop-m.invariant
    ∙ middles_go c.args.w c.args.n c.loop-m.m c.loop-m.rows (omega arith)
    ∙ ap (middles c.args.w c.args.n (c.loop-m.m + 1) (c.args.n - (c.loop-m.m + 1)))
    (sym (c.pass_through.ensures ∙ ap (λ (q : List ℕ). through c.args.w c.loop-m.m q 0 c.args.n c.loop-m.rows) c.join_rows.ensures))

pub returns : goal.returns
returns c =
    sym (c.loop-m.invariant ∙ middles_end c.args.w c.args.n c.loop-m.m c.loop-m.rows (omega arith))
