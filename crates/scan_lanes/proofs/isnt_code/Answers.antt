-- The table of all bytes.
use native.Mathlib.Omega.{arith}
use Rattle.scan_lanes.proofs.Bytes.{isnt_code_lem}
use Rattle.scan_lanes.proofs.isnt_code.Goals as goal

pub returns : goal.returns
returns c = isnt_code_lem c.args.byte (omega arith)
