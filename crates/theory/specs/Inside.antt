-- Words whose two ends are nodes below n: what the loops over links ask of a net.
use Rattle.std.specs.Prelude.{ℕ, ◌<◌}
use mathlib.Core.List.{List, Memᴰ}
use Rattle.theory.specs.Words.{tail_of, head_of}

-- Both ends of a word are nodes.
pub record Ends (n w : ℕ) : Type 0 where
  pub tail_in : tail_of w < n
  pub head_in : head_of w < n

-- So are those of every word of a list.
abbrev pub Inside : ℕ → List ℕ → Type 0
Inside n ws = (w : ℕ) → Memᴰ w ws → Ends n w
