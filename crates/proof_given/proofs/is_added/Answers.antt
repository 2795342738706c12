use Prim.Native.Nat.{◌-◌}
use mathlib.Core.Path.{sym, ◌∙◌}
use native.Mathlib.Omega.{arith}
use Rattle.proof_given.proofs.Loops.{added_any, added_here, added_before, added_none}
use Rattle.proof_given.proofs.is_added.Goals as goal

pub returns-then-count-eq0 : goal.returns-then-count-eq0
returns-then-count-eq0 c = added_none c.args.added.now c.args.word c.args.count c.if-count-eq0.true

pub returns-then-added-last : goal.returns-then-added-last
returns-then-added-last c = added_here c.args.added.now c.args.word (c.args.count - 1) c.args.count (omega (arith, c.if-count-eq0.false)) c.if-added-last.true

pub returns-else-added-last : goal.returns-else-added-last
returns-else-added-last c =
    c.contains.ensures.value
    ∙ sym (added_any c.args.added.now c.args.word (c.args.count - 1) (omega (arith, c.requires)))
    ∙ added_before c.args.added.now c.args.word (c.args.count - 1) c.args.count (omega (arith, c.if-count-eq0.false)) c.if-added-last.false
