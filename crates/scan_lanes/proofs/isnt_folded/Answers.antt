use mathlib.Core.Path.{◌∙◌}
use native.Mathlib.Omega.{arith}
use Rattle.scan_lanes.proofs.Bytes.{isnt_folded}
use Rattle.scan_lanes.proofs.isnt_folded.Goals as goal

pub returns : goal.returns
returns c = c.with_upper.ensures ∙ isnt_folded c.args.byte (omega arith)
