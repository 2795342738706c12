-- Lines in blocks as they are written, the first of which is line n, and what is stored of them.
use Rattle.std.specs.Prelude.{ℕ, zero, suc, ◌*◌, cond, List, [], ◌∷◌}
use Rattle.std.proofs.lemmas.List.Edits.{sets}
use Rattle.theory.specs.Words.{isnt}
use Rattle.theory.specs.Checks.{listed}
use Rattle.theory.specs.Origins.{chosen}
use Rattle.derivation_lines.specs.Lines.{Line, line, r3}
use Rattle.derivation_lines.specs.Deriving.{linked, Way, up, under, down, step_link, step_line}
use Rattle.derivation_lines.specs.Flat.{flat}

-- More lines than any derivation has, and more nodes than either part of a reason.
abbrev pub line_limit : ℕ
line_limit = 1000000

abbrev pub part_limit : ℕ
part_limit = 100000

-- The way with this number: 0 up, 1 under, any other down.
abbrev pub way_at : ℕ → Way
way_at zero = up
way_at (suc zero) = under
way_at (suc (suc n)) = down

-- The lines of the steps from u over the nodes vs.
unfoldable pub step_lines : Way → ℕ → List ℕ → ℕ → ℕ → List ℕ → ℕ → List Line
step_lines w set ws x u [] n = []
step_lines w set ws x u (v ∷ vs) n = step_link w set ws u v ∷ step_line w n x v ∷ step_lines w set ws x v vs (suc (suc n))

-- The lines of a crossing.
unfoldable pub cross_lines : ℕ → List ℕ → ℕ → ℕ → ℕ → List Line
cross_lines set ws u v n = cond (listed u v 1 (chosen set ws)) (linked set ws u v isnt ∷ []) (linked set ws v u isnt ∷ line u v isnt (r3 n) ∷ [])

-- A list of numbers in which these lines stand from line n on, the rest as it was.
abbrev pub put_lines : List ℕ → ℕ → List Line → List ℕ
put_lines l n ls = sets l (4 * n) (flat ls)
