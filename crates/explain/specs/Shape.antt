-- What is asked of a list in which a reason was found.
use Rattle.std.specs.Prelude.{ℕ, ◌+◌, ◌≤◌, List, length, get_or, take}
use Rattle.derivation_lines.specs.Known.{KnownWords}
use Rattle.explain_line.specs.Blocks.{part_limit}

-- The first `size` places of m have the shape of a reason: two sizes and nodes, at least one of them in the first part.
pub record Shaped (ws : List ℕ) (size : ℕ) (m : List ℕ) : Type 0 where
  pub known : KnownWords ws
  pub inside : size ≤ length m
  pub long : 3 ≤ length (take size m)
  pub short : length (take size m) ≤ part_limit
  pub some : 1 ≤ get_or (take size m) 0 0
  pub fits : get_or (take size m) 0 0 + 2 ≤ length (take size m)
