-- The added words, which stand at the front of a buffer; and words whose origin can be told.
use Rattle.std.specs.Prelude.{ℕ, zero, suc, ◌≤◌, get_or}
use mathlib.Core.List.{List, [], ◌∷◌, Memᴰ}
use Rattle.theory.specs.Origins.{origin_of, origin_limit}

-- The first words of a buffer, the last of them first.
unfoldable pub held : List ℕ → ℕ → List ℕ
held l zero = []
held l (suc c) = get_or l c 0 ∷ held l c

-- Every word has an origin of at most 3.
abbrev pub Entered : List ℕ → Type 0
Entered ws = (w : ℕ) → Memᴰ w ws → origin_of w ≤ origin_limit
