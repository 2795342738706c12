-- Compaction computed on small nets.
use mathlib.Core.Path.{◌≡◌, refl}
use mathlib.Core.List.{[], ◌∷◌}
use Rattle.theory.specs.Marks.{mark, link, links, command, round}
use Rattle.theory.specs.Scans.{same, rounds}
use Rattle.theory.specs.Sorting.{insert, sort, changes_from, without_repeats}
use Rattle.theory.specs.Compaction.{thin, compacted}

-- Three kinds 0 → 1 → 2, with 0 → 2 and 0 → 0 besides, out of order and with a repeat: the two that follow go.
pub three_kinds : compacted 0 3 (2052 ∷ 4 ∷ 2 ∷ 0 ∷ 2052 ∷ []) ≡ 2 ∷ 2052 ∷ []
unfolding thin sort insert without_repeats changes_from rounds same round command links link mark
three_kinds = refl

-- p ↛ q and q ↛ p: the higher word goes.
pub both_ways : compacted 0 2 (2049 ∷ 3 ∷ []) ≡ 3 ∷ []
unfolding thin sort insert without_repeats changes_from rounds same round command links link mark
both_ways = refl
