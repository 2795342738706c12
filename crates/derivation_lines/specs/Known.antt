-- What the code asks of the words that it reads; every net has it.
use Rattle.std.specs.Prelude.{ℕ, ◌≤◌, length}
use mathlib.Core.List.{List, Memᴰ}
use Rattle.theory.specs.Words.{word_limit}
use Rattle.theory.specs.Origins.{origin_of, origin_limit}

-- There are no more than a net has, and the origin of each is at most 3.
pub record KnownWords (ws : List ℕ) : Type 0 where
  pub few : length ws ≤ word_limit
  pub origins : (w : ℕ) → Memᴰ w ws → origin_of w ≤ origin_limit
