-- The words up to the one that the loop has come to were followed, or do nothing.
use Prim.Native.Nat.{◌-◌, ◌≤◌}
use mathlib.Core.Path.{◌≡◌}
use lib.ListN.{length, drop}
use Rattle.theory.specs.Origins.{chosen}
use Rattle.scan_lanes.specs.Lanes.{lane_pass}
use Rattle.scan_pass.proofs.follow_open.Given as goal

abbrev pub invariant-loop-i : goal.invariant-loop-i
invariant-loop-i l =
    (l.end ≤ length l.pass.words.now - 7) × (l.i ≤ length l.pass.words.now) × (length l.marks ≡ length l.initial.marks)
    × (lane_pass l.pass.lanes.sign (chosen l.pass.lanes.set l.pass.words.now) l.initial.marks ≡ lane_pass l.pass.lanes.sign (chosen l.pass.lanes.set (drop l.i l.pass.words.now)) l.marks)

abbrev pub decreases-loop-i : goal.decreases-loop-i
decreases-loop-i l = length l.pass.words.now - l.i
