use native.Mathlib.Omega.{arith}
use lib.ListN.{take}
use Rattle.std.proofs.lemmas.Grind.{common_steps}
use Rattle.scan_fold.proofs.Loops.{gained_more}
use Rattle.scan_fold.proofs.fold_each.Goals as goal

pub loop-byte-preserved : goal.loop-byte-preserved
loop-byte-preserved g c = record {
  done = grind (arith, common_steps);
  rest = grind (arith, common_steps);
  gained = λ i l.
      rw c.new_bits-new.ensures
      (gained_more i (take c.args.n c.args.marks.now) c.loop-byte.byte-items c.loop-byte.byte-index c.fold-folded.result c.loop-byte.new (omega arith)
      (c.loop-byte.invariant.rest c.loop-byte.byte-index (omega arith)) (c.loop-byte.invariant.gained i l));
}
