-- The cleared bytes with the start's byte set are the start with the bytes past the nodes.
use native.Mathlib.Omega.{arith}
use lib.ListN.{drop}
use Rattle.scan_start.proofs.Starts.{start_put}
use Rattle.scan_start.proofs.put_start.Goals as goal

pub returns : goal.returns
returns c =
    rw c.clear.ensures (start_put c.args.n c.args.x (omega arith) (drop c.args.n c.args.marks.now))
