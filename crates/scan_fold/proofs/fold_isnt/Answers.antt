use native.Mathlib.Omega.{arith}
use Rattle.scan_lanes.specs.Codes.{is_code, isnt_marks}
use Rattle.scan_fold.proofs.Loops.{nodes_each, gained_new}
use Rattle.scan_fold.proofs.fold_isnt.Goals as goal

pub returns-clause-marks_after : goal.returns-clause-marks_after
returns-clause-marks_after c =
    nodes_each (λ e. is_code (isnt_marks e)) c.args.n c.args.marks.now c.fold_each.new.marks (omega arith) (omega arith) c.fold_each.ensures.changed
    c.fold_each.ensures.past

pub returns-clause-by_index : goal.returns-clause-by_index
returns-clause-by_index c i l =
    gained_new isnt_marks i c.args.n c.fold_each.result c.args.marks.now c.fold_each.new.marks c.fold_each.ensures.changed (c.fold_each.ensures.by_index i l)
