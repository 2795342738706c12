use native.Mathlib.Omega.{arith}
use lib.ListN.{length-set}
use Rattle.scan_link.proofs.Classes.{table_more, table_all}
use Rattle.scan_link.proofs.table_of.Goals as goal

pub loop-i-preserved : goal.loop-i-preserved
loop-i-preserved c = (
  simp length-set c.loop-i.invariant.0,
  table_more c.args.set c.args.sign c.loop-i.table c.loop-i.i (omega arith) c.word_in.ensures c.lanes_for.ensures c.loop-i.invariant.1,
)

pub returns : goal.returns
returns c =
    table_all c.args.set c.args.sign c.loop-i.table (λ k l. c.loop-i.invariant.1 k (omega arith))
