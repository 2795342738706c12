-- Mending computed on small nets.
use mathlib.Core.Path.{◌≡◌, refl}
use mathlib.Core.List.{[], ◌∷◌}
use Rattle.theory.specs.Marks.{mark, link, links, command, round}
use Rattle.theory.specs.Scans.{same, rounds}
use Rattle.theory.specs.Mending.{dropped_at, first_with, kept_from, dropped_from}

-- A repeat of a kept word is kept; each occurrence of a dropped word is listed.
pub repeats_kept : kept_from 1 2 [] (2 ∷ 3 ∷ 2 ∷ 2051 ∷ []) ≡ 2 ∷ 2 ∷ []
unfolding kept_from first_with rounds same round command links link mark
repeats_kept = refl

pub repeats_dropped : dropped_from 1 2 [] (2 ∷ 3 ∷ 2 ∷ 2051 ∷ []) ≡ dropped_at 3 0 1 ∷ dropped_at 2051 0 1 ∷ []
unfolding dropped_from first_with rounds same round command links link mark
repeats_dropped = refl

-- A kind that is not itself clashes at itself.
pub not_itself : dropped_from 0 1 [] (1 ∷ []) ≡ dropped_at 1 0 0 ∷ []
unfolding dropped_from first_with rounds same round command links link mark
not_itself = refl
