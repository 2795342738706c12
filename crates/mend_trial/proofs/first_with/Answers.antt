use mathlib.Core.Path.{◌≡◌, refl, sym, ◌∙◌}
use mathlib.Core.Bool.{cond}
use native.Mathlib.Omega.{arith}
use Rattle.theory.specs.Marks.{T, F, U}
use Rattle.mend_trial.proofs.Searching.{with_stop, with_go, with_end}
use Rattle.mend_trial.proofs.first_with.Goals as goal

pub loop-v-init : goal.loop-v-init
loop-v-init c = refl

pub returns-then-has_both : goal.returns-then-has_both
returns-then-has_both c =
    sym (c.loop-v.invariant ∙ with_stop (cond c.args.kinds U T) F c.args.marks.now c.loop-v.v c.args.n c.has_both.ensures (omega arith) c.if-has_both.true)

pub loop-v-preserved : goal.loop-v-preserved
loop-v-preserved c =
    c.loop-v.invariant ∙ with_go (cond c.args.kinds U T) F c.args.marks.now c.loop-v.v c.args.n c.has_both.ensures (omega arith) c.if-has_both.false

pub returns : goal.returns
returns c =
    let e : c.loop-v.v ≡ c.args.n = omega arith in
    sym (c.loop-v.invariant ∙ with_end (cond c.args.kinds U T) F c.args.marks.now c.loop-v.v c.args.n (omega arith) ∙ e)
