use native.Mathlib.Omega.{arith}
use Rattle.scan_lanes.specs.Codes.{is_marks}
use Rattle.scan_fold.proofs.Loops.{nodes_each}
use Rattle.scan_fold.proofs.plain_marks.Goals as goal

pub returns : goal.returns
returns c =
    nodes_each is_marks c.args.n c.args.marks.now c.change_each.new.marks (omega arith) (omega arith) c.change_each.ensures.changed c.change_each.ensures.past
