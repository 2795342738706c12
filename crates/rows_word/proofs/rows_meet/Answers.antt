use mathlib.Core.Path.{sym, ◌∙◌}
use native.Mathlib.Omega.{arith}
use Rattle.rows_word.proofs.Going.{meets_start, meets_go, meets_end}
use Rattle.rows_word.proofs.rows_meet.Goals as goal

pub loop-j-init : goal.loop-j-init
loop-j-init c = meets_start c.args.a c.args.b c.args.w c.args.rows.now c.args.others.now

pub loop-j-preserved : goal.loop-j-preserved
loop-j-preserved c =
    c.loop-j.invariant ∙ meets_go c.args.a c.args.b c.args.w c.args.rows.now c.args.others.now c.loop-j.j c.loop-j.both (omega arith)

pub returns : goal.returns
returns c =
    sym (c.loop-j.invariant ∙ meets_end c.args.a c.args.b c.args.w c.args.rows.now c.args.others.now c.loop-j.j c.loop-j.both (omega arith))
