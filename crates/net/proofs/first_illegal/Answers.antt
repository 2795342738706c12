use mathlib.Core.Path.{sym, ◌∙◌}
use borrow.Author.Tests.{not-true, not-false}
use native.Mathlib.Omega.{arith}
use Rattle.net_word.specs.Legal.{legal_from}
use Rattle.net.proofs.Passing.{passing_go, passing_stop, passing_end}
use Rattle.net.proofs.first_illegal.Goals as goal

pub returns-then-not-is_legal : goal.returns-then-not-is_legal
returns-then-not-is_legal c =
    omega (arith, passing_stop (legal_from c.args.top c.args.o c.args.n) c.args.words.now c.loop-i.i (omega arith) (sym c.is_legal.ensures ∙ not-true _ c.if-not-is_legal.true-raw))

pub loop-i-preserved : goal.loop-i-preserved
loop-i-preserved c =
    omega (arith, passing_go (legal_from c.args.top c.args.o c.args.n) c.args.words.now c.loop-i.i (omega arith) (sym c.is_legal.ensures ∙ not-false _ c.if-not-is_legal.false-raw))

pub returns : goal.returns
returns c =
    omega (arith, passing_end (legal_from c.args.top c.args.o c.args.n) c.args.words.now c.loop-i.i (omega arith))
