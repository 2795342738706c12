use Prim.Native.Nat.{ℕ, ◌-◌}
use mathlib.Core.Path.{◌≡◌, sym, ap, ◌∙◌}
use native.Mathlib.Omega.{arith}
use Rattle.theory_laws.specs.Over.{over}
use Rattle.question.specs.Table.{answer_number}
use Rattle.valuation.specs.Values.{value_row}
use Rattle.valuation.proofs.Rows.{row_none, row_put}
use Rattle.valuation.proofs.put_row.Goals as goal

pub loop-y-init : goal.loop-y-init
loop-y-init c =
    ap (λ q. over q c.args.table.now) (sym (row_none c.args.marks.now c.args.o))

pub loop-y-preserved : goal.loop-y-preserved
loop-y-preserved c =
    row_put c.args.marks.now c.args.table.now c.loop-y.table c.args.o c.args.n c.loop-y.y c.answer_number-byte.result c.loop-y.auto.y c.loop-y-test.true c.requires.2 c.loop-y.invariant
    (c.answer_number-byte.ensures ∙ ap answer_number c.answer_at.ensures)

pub returns : goal.returns
returns c =
    let e : c.loop-y.y ≡ c.args.n = omega (arith, c.loop-y.auto.y-end, c.loop-y-test.false) in
    c.loop-y.invariant ∙ ap (λ (i : ℕ). over (value_row c.args.marks.now c.args.o (i - c.args.o)) c.args.table.now) e
