-- The words up to the one that the loop has come to were followed.
use Prim.Native.Nat.{◌+◌}
use mathlib.Core.Path.{◌≡◌}
use lib.ListN.{length, drop}
use Rattle.theory.specs.Origins.{chosen}
use Rattle.scan_lanes.specs.Lanes.{lane_pass}
use Rattle.scan_pass.proofs.follow_rest.Given as goal

abbrev pub invariant-loop-word : goal.invariant-loop-word
invariant-loop-word l =
    (length l.marks ≡ length l.initial.marks)
    × (lane_pass l.pass.lanes.sign (chosen l.pass.lanes.set (drop l.from l.pass.words.now)) l.initial.marks ≡ lane_pass l.pass.lanes.sign (chosen l.pass.lanes.set (drop (l.from + l.word-index) l.pass.words.now)) l.marks)
