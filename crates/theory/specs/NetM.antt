-- The net on which most readings are made.
use Rattle.std.specs.Prelude.{ℕ, List, [], ◌∷◌}

-- The words of net M, which has 2 objects, the traces 0 and 1, and 4 kinds.
abbrev pub M : List ℕ
M = 4 ∷ 2058 ∷ 4103 ∷ 8198 ∷ 10248 ∷ []
