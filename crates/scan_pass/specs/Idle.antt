-- Words that a pass may go past without a look at their class.
use Rattle.std.specs.Prelude.{ℕ, ◌≡◌, List, drop}
use Rattle.theory.specs.Origins.{chosen}
use Rattle.scan_lanes.specs.Lanes.{lane_pass}

-- With the marks m the words from place i up to place j do nothing in any pass, whatever its set and sign.
abbrev pub Idle : List ℕ → List ℕ → ℕ → ℕ → Type 0
Idle ws m i j = (set sign : ℕ) → lane_pass sign (chosen set (drop i ws)) m ≡ lane_pass sign (chosen set (drop j ws)) m
