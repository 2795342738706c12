-- Which way a second part is gone down.
use Rattle.std.specs.Prelude.{ℕ, Bool, ◌||◌, eqb, ltb}

-- Straight down from x: the second part is one node, or x is an object.
abbrev pub straight : ℕ → ℕ → ℕ → Bool
straight o x nodes = eqb nodes 1 || ltb x o
