-- The figures of net M, and of nets with no objects or no nodes, by computation.
use mathlib.Core.Path.{◌≡◌, refl}
use mathlib.Core.List.{[], ◌∷◌}
use Rattle.theory.specs.NetM.{M}
use Rattle.theory.specs.Marks.{mark, link, links, command, round}
use Rattle.theory.specs.Scans.{rounds, same}
use Rattle.figures_counts.specs.Counting.{count, count_rows, figures}

pub figures_M : figures 2 4 M ≡ 0 ∷ 4 ∷ 4 ∷ 0 ∷ 3 ∷ 7 ∷ 6 ∷ 0 ∷ []
unfolding figures count_rows count rounds round command links link mark same
figures_M = refl

-- A kind that is not itself: one pair, both.
pub figures_clash : figures 0 1 (1 ∷ []) ≡ 0 ∷ 0 ∷ 0 ∷ 0 ∷ 0 ∷ 0 ∷ 0 ∷ 1 ∷ []
unfolding figures count_rows count rounds round command links link mark same
figures_clash = refl

pub figures_nothing : figures 0 0 [] ≡ 0 ∷ 0 ∷ 0 ∷ 0 ∷ 0 ∷ 0 ∷ 0 ∷ 0 ∷ []
unfolding figures count_rows
figures_nothing = refl
