use native.Mathlib.Omega.{arith}
use Rattle.unit_command.proofs.Obeying.{keep_go}
use Rattle.unit_command.proofs.clear_markers.Goals as goal

pub loop-mark-preserved : goal.loop-mark-preserved
loop-mark-preserved c =
    keep_go c.args.markers c.args.marks.now c.loop-mark.mark-items c.loop-mark.mark-index (omega arith) c.loop-mark.invariant
