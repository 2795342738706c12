-- Words that have no word of a sign among them.
use Rattle.std.specs.Prelude.{ℕ, ◌+◌, ◌<◌, ◌≡◌, List, get_or}
use Rattle.theory.specs.Words.{parity}

-- None of the k words from place i on has the sign.
abbrev pub None : ℕ → List ℕ → ℕ → ℕ → Type 0
None sign ws i k = (j : ℕ) → j < k → parity (get_or ws (i + j) 0) ≡ sign → ⊥

-- None of the first i words says "is not".
abbrev pub NoIsnt : ℕ → List ℕ → Type 0
NoIsnt i ws = (j : ℕ) → j < i → parity (get_or ws j 0) ≡ 1 → ⊥
