use mathlib.Core.Path.{◌≡◌, sym, ◌∙◌}
use native.Mathlib.Omega.{arith}
use Rattle.clash.proofs.Bytes.{both_stop, both_go, both_end}
use Rattle.clash.proofs.first_both.Goals as goal

pub returns-then-byte-eq3 : goal.returns-then-byte-eq3
returns-then-byte-eq3 c = (omega arith, sym (c.loop-y.invariant ∙ both_stop c.args.marks.now c.loop-y.y c.args.n (omega arith) (omega arith)))

pub loop-y-preserved : goal.loop-y-preserved
loop-y-preserved c = c.loop-y.invariant ∙ both_go c.args.marks.now c.loop-y.y c.args.n (omega arith) (λ q. omega arith)

pub returns : goal.returns
returns c =
    let end : c.loop-y.y ≡ c.args.n = omega arith in
    c.loop-y.invariant ∙ both_end c.args.marks.now c.loop-y.y c.args.n (omega arith) ∙ end
