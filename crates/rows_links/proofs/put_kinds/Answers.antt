use Prim.Native.Nat.{◌+◌, ◌-◌}
use mathlib.Core.Path.{refl, sym, ap, ◌∙◌}
use Rattle.rows_steps.specs.Steps.{kind_bits}
use Rattle.rows_links.proofs.Linking.{place_below, kinds_go, kinds_end}
use native.Mathlib.Omega.{arith}
use Rattle.rows_links.proofs.put_kinds.Goals as goal

pub loop-p-init : goal.loop-p-init
loop-p-init c = refl

pub overflow_mul-p : goal.overflow_mul-p
overflow_mul-p c =
    omega (arith, place_below c.args.n c.args.w c.loop-p.p c.loop-p.p c.requires.1 (omega arith) (omega arith))

pub put_bit-requires : goal.put_bit-requires
put_bit-requires c =
    omega (arith, place_below c.args.n c.args.w c.loop-p.p c.loop-p.p c.requires.1 (omega arith) (omega arith))

pub loop-p-preserved : goal.loop-p-preserved
loop-p-preserved c =
    c.loop-p.invariant ∙ kinds_go c.args.w c.args.n c.loop-p.p c.loop-p.rows (omega arith)
    ∙ ap (kind_bits c.args.w (c.loop-p.p + 1) (c.args.n - (c.loop-p.p + 1))) (sym c.put_bit.ensures)

pub returns : goal.returns
returns c =
    sym (c.loop-p.invariant ∙ kinds_end c.args.w c.args.n c.loop-p.p c.loop-p.rows (omega arith))
