use lib.ListN.{get_or}
use Rattle.figures_rows.proofs.Going.{ones_go, ones_end, ones_few}
use native.Mathlib.Omega.{arith}
use Rattle.figures_rows.proofs.ones_in_common.Goals as goal

pub loop-i-preserved : goal.loop-i-preserved
loop-i-preserved c =
    let few = ones_few (get_or c.args.rows.now c.loop-i.i 0) (get_or c.args.others.now c.loop-i.i 0) (c.type_inv.rows c.loop-i.i).fits (c.type_inv.others c.loop-i.i).fits in
    let next = ones_go c.args.e c.loop-i.i c.args.rows.now c.args.others.now (omega arith) in
    (omega (arith, next), omega (arith, few))

pub returns : goal.returns
returns c =
    let none = ones_end c.args.e c.loop-i.i c.args.rows.now c.args.others.now (omega arith) in
    (omega (arith, none), omega arith)
