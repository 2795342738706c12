use mathlib.Core.Path.{sym, ◌∙◌}
use native.Mathlib.Omega.{arith}
use Rattle.theory.specs.Words.{sign_at}
use Rattle.satisfies.proofs.Testing.{everywhere_stop, everywhere_go, everywhere_end}
use Rattle.satisfies.proofs.agree_everywhere.Goals as goal

pub returns-then-not-agree : goal.returns-then-not-agree
returns-then-not-agree c =
    sym (c.loop-d.invariant ∙ everywhere_stop c.args.o c.args.k c.args.table.now c.args.x c.args.y (sign_at c.args.sign) c.loop-d.d c.args.n (omega arith) cc)

pub loop-d-preserved : goal.loop-d-preserved
loop-d-preserved c =
    c.loop-d.invariant ∙ everywhere_go c.args.o c.args.k c.args.table.now c.args.x c.args.y (sign_at c.args.sign) c.loop-d.d c.args.n (omega arith) cc

pub returns : goal.returns
returns c =
    sym (c.loop-d.invariant ∙ everywhere_end c.args.o c.args.k c.args.table.now c.args.x c.args.y (sign_at c.args.sign) c.loop-d.d c.args.n (omega arith))
