-- The table of all bytes.
use native.Mathlib.Omega.{arith}
use Rattle.scan_lanes.proofs.Bytes.{is_folded}
use Rattle.scan_lanes.proofs.is_folded.Goals as goal

pub returns : goal.returns
returns c = is_folded c.args.byte (omega arith)
