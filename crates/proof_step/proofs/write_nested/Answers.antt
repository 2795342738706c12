use mathlib.Core.Path.{refl}
use native.Mathlib.Omega.{arith}
use lib.ListN.{length-set}
use Rattle.proof_step.proofs.Contents.{front_start, front_more, front_end}
use Rattle.proof_step.proofs.write_nested.Goals as goal

pub loop-i-init : goal.loop-i-init
loop-i-init c = record { long = refl; written = front_start c.args.base c.args.step c.args.count c.args.list.now }

pub bounds-list-i-in-loop-i : goal.bounds-list-i-in-loop-i
bounds-list-i-in-loop-i c = simp length-set (omega arith)

pub loop-i-preserved : goal.loop-i-preserved
loop-i-preserved c = record {
  long = simp length-set c.loop-i.invariant.long;
  written = front_more c.args.base c.args.step c.args.count c.args.list.now c.loop-i.i c.loop-i.list (omega arith) (omega arith) c.loop-i.invariant.written;
}

pub returns : goal.returns
returns c =
    front_end c.args.base c.args.step c.args.count c.args.list.now c.loop-i.i c.loop-i.list (omega arith) (omega arith) c.loop-i.invariant.written
