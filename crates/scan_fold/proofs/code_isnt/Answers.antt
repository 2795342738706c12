use native.Mathlib.Omega.{arith}
use Rattle.scan_lanes.specs.Codes.{isnt_code, is_marks}
use Rattle.scan_fold.proofs.Loops.{nodes_each}
use Rattle.scan_fold.proofs.code_isnt.Goals as goal

pub returns : goal.returns
returns c =
    nodes_each (λ e. isnt_code (is_marks e)) c.args.n c.args.marks.now c.change_each.new.marks (omega arith) (omega arith) c.change_each.ensures.changed c.change_each.ensures.past
