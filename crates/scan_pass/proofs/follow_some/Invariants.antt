-- The words up to the block that the loop has come to were followed, or could do nothing.
use Prim.Native.Nat.{◌*◌}
use mathlib.Core.Path.{◌≡◌}
use lib.ListN.{length, drop}
use Rattle.theory.specs.Origins.{chosen}
use Rattle.scan_lanes.specs.Lanes.{lane_pass}
use Rattle.scan_pass.proofs.follow_some.Given as goal

abbrev pub invariant-loop-block : goal.invariant-loop-block
invariant-loop-block l =
    (length l.marks ≡ length l.initial.marks) × (lane_pass l.pass.lanes.sign (chosen l.pass.lanes.set l.pass.words.now) l.initial.marks ≡ lane_pass l.pass.lanes.sign (chosen l.pass.lanes.set (drop (l.block * 8) l.pass.words.now)) l.marks)
