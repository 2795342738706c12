-- The loop looks at whole blocks, and counts no more of them than there are words.
use Prim.Native.Nat.{◌-◌, ◌%◌, ◌≤◌}
use mathlib.Core.Path.{◌≡◌}
use Rattle.scan_block.proofs.is_rare.Given as goal

abbrev pub invariant-loop-from : goal.invariant-loop-from
invariant-loop-from l = (l.from % 8 ≡ 0) × (l.looked ≤ l.from) × (l.without ≤ l.looked)

abbrev pub decreases-loop-from : goal.decreases-loop-from
decreases-loop-from l = l.whole - l.from
