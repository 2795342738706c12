-- What bytes gain where they are changed.
use Rattle.std.specs.Prelude.{ℕ, ◌<◌, ◌-◌, ◌≡◌, false, not, List, get_or}
use Rattle.std.specs.Int.Bits.{bit_and}
use Rattle.theory_laws.specs.Deciding.{Decides}
use Rattle.theory.specs.Marks.{has}

-- Bit i is missing in r exactly if none of n bytes has gained it, which were m₀ and are m.
abbrev pub NoneGained : ℕ → ℕ → List ℕ → List ℕ → ℕ → Type 0
NoneGained i n m₀ m r = Decides (not (has i r)) ((v : ℕ) → v < n → has i (bit_and (get_or m v 0) (255 - get_or m₀ v 0)) ≡ false)
