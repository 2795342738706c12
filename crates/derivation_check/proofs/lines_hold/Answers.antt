use mathlib.Core.Path.{sym, ◌∙◌}
use native.Mathlib.Omega.{arith}
use Rattle.derivation_check.proofs.Loop.{lines_go, lines_stop, lines_end}
use Rattle.derivation_check.proofs.lines_hold.Goals as goal

pub returns-then-not-line_holds : goal.returns-then-not-line_holds
returns-then-not-line_holds c =
    sym (c.loop-n.invariant ∙ lines_stop c.args.o c.args.k c.args.set c.args.words.now c.args.list.now c.loop-n.n (omega arith) c.line_holds.ensures c.if-not-line_holds.true)

pub loop-n-preserved : goal.loop-n-preserved
loop-n-preserved c =
    c.loop-n.invariant ∙ lines_go c.args.o c.args.k c.args.set c.args.words.now c.args.list.now c.loop-n.n (omega arith) c.line_holds.ensures c.if-not-line_holds.false

pub returns : goal.returns
returns c =
    sym (c.loop-n.invariant ∙ lines_end c.args.o c.args.k c.args.set c.args.words.now c.args.list.now c.loop-n.n (omega arith))
