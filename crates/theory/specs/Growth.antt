-- The number of marks, and whether a step of a scan set any.
use Rattle.std.specs.Prelude.{ℕ, ◌+◌, ◌<◌, Bool, true, false, List, [], ◌∷◌}
use Rattle.std.specs.Int.Count.{ones}

-- The number of marks.
unfoldable pub size : List ℕ → ℕ
size [] = 0
size (b ∷ m) = ones b + size m

-- What a flag says of the marks before and after: false, nothing was set; true, something was.
pub data Set : Bool → List ℕ → List ℕ → Type 0 where
  kept : {m : List ℕ} → Set false m m
  more : {m m' : List ℕ} → size m < size m' → Set true m m'
