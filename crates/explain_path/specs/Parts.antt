-- The line that joins the two parts of a path.
use Rattle.std.specs.Prelude.{ℕ, ◌-◌, List, [], ◌∷◌}
use Rattle.theory.specs.Words.{isnt}
use Rattle.derivation_lines.specs.Lines.{Line, line, r4}

-- The line n that puts the first part, which has f lines, before the line above. There is none where the first part is x alone.
abbrev pub join_lines : ℕ → List ℕ → ℕ → ℕ → ℕ → List Line
join_lines x [] y f n = []
join_lines x (v ∷ vs) y f n = line x y isnt (r4 (f - 1) (n - 1)) ∷ []
