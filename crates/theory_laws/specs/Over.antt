-- A list that is written over from its front.
use Rattle.std.specs.Prelude.{ℕ, List, ◌++◌, length, drop}

-- The list l with ws in front, and the rest of l untouched.
abbrev pub over : List ℕ → List ℕ → List ℕ
over ws l = ws ++ drop (length ws) l
