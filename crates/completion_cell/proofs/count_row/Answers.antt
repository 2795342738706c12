use Prim.Native.Nat.{◌+◌}
use mathlib.Core.Path.{◌≡◌}
use native.Mathlib.Omega.{arith}
use Rattle.std.proofs.lemmas.List.Edits.{get_or-between}
use Rattle.completion_cell.proofs.Rows.{count_go, count_end}
use Rattle.completion_cell.proofs.count_row.Goals as goal

pub loop-byte-preserved : goal.loop-byte-preserved
loop-byte-preserved c =
    let y = c.args.o + c.loop-byte.byte-index in
    let next : y + 1 ≡ c.args.o + (c.loop-byte.byte-index + 1) = omega arith in
    let go = rw next at (count_go c.args.marks.now y c.args.n (omega arith)) in
    rw (get_or-between c.args.marks.now c.args.o c.args.n c.loop-byte.byte-index 0 (omega arith)) (omega arith, omega (arith, go, c.loop-byte.invariant.1))

pub returns : goal.returns
returns c = omega (arith, c.loop-byte.invariant.1, count_end c.args.marks.now (c.args.o + c.loop-byte.byte-index) c.args.n (omega arith))
