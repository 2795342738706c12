use mathlib.Core.Path.{sym, ◌∙◌}
use native.Mathlib.Omega.{arith}
use Rattle.rows_word.proofs.Going.{gain_two_start, gain_two_go, gain_two_end}
use Rattle.rows_word.proofs.join_two.Goals as goal

pub loop-j-init : goal.loop-j-init
loop-j-init c = gain_two_start c.args.a c.args.b c.args.c c.args.w c.args.others.now c.args.rows.now

pub loop-j-preserved : goal.loop-j-preserved
loop-j-preserved c =
    c.loop-j.invariant
    ∙ gain_two_go c.args.a c.args.b c.args.c c.args.w c.args.others.now c.loop-j.rows c.loop-j.j (omega arith) (omega (arith, c.loop-j.auto.rows, c.requires.0))

pub returns : goal.returns
returns c =
    sym (c.loop-j.invariant ∙ gain_two_end c.args.a c.args.b c.args.c c.args.w c.args.others.now c.loop-j.rows c.loop-j.j (omega arith))
