-- Marks cleared, and marks that hold T, F and U alone.
use Rattle.std.specs.Prelude.{ℕ, ◌<◌, List, ◌++◌, get_or, drop}
use Rattle.theory.specs.Marks.{blank}

-- The marks of n nodes cleared, past them the bytes as they were.
abbrev pub cleared : ℕ → List ℕ → List ℕ
cleared n m = blank n ++ drop n m

-- The byte of every node below n is below 8: the five markers beyond T, F and U are free.
abbrev pub Low : ℕ → List ℕ → Type 0
Low n m = (v : ℕ) → v < n → get_or m v 0 < 8
