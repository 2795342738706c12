-- Readings of the compaction, by computation.
use Rattle.std.specs.Prelude.{Err, Ok}
use mathlib.Core.Path.{◌≡◌, refl}
use mathlib.Core.List.{[], ◌∷◌, ◌++◌}
use Rattle.theory.specs.Marks.{mark, link, links, command, round}
use Rattle.theory.specs.Scans.{same, rounds}
use Rattle.theory.specs.NetM.{M}
use Rattle.theory.specs.Sorting.{insert, sort, changes_from, without_repeats}
use Rattle.theory.specs.Compaction.{thin}
use Rattle.net_word.specs.declared.Cause.TheVariants.{Tail}
use Rattle.net.specs.Passing.{passing}
use Rattle.net.specs.declared.Refusal.TheVariants.{TooManyNodes, IllegalWord, ShortBuffer}
use Rattle.compact.specs.Table.{compaction_outcome, compacted_by}

-- Kinds 0 → 1 → 2, with 0 → 2, 0 → 0 and a repeat: two words are left, and three places are freed.
pub compact_three : compacted_by 0 3 (2052 ∷ 4 ∷ 2 ∷ 0 ∷ 2052 ∷ []) (9 ∷ 9 ∷ 9 ∷ 9 ∷ []) ≡ compaction_outcome (Ok 2) (2 ∷ 2052 ∷ 0 ∷ 0 ∷ 0 ∷ []) (0 ∷ 0 ∷ 0 ∷ 9 ∷ [])
unfolding thin sort insert without_repeats changes_from passing rounds same round command links link mark
compact_three = refl

-- A kind that is itself says nothing: word 0 goes, and so does the last word of a list.
pub compact_itself : compacted_by 0 1 (0 ∷ []) (9 ∷ []) ≡ compaction_outcome (Ok 0) (0 ∷ []) (0 ∷ [])
unfolding thin sort insert without_repeats changes_from passing rounds same round command links link mark
compact_itself = refl

-- The words of net M's completed list are compacted back to M.
pub compact_M : compacted_by 2 4
    (4 ∷ 7 ∷ 9 ∷ 11 ∷ 2053 ∷ 2054 ∷ 2056 ∷ 2058 ∷ 4100 ∷ 4103 ∷ 4105 ∷ 4107 ∷ 6149 ∷ 6150 ∷ 8197 ∷ 8198 ∷ 8200 ∷ 10245 ∷ 10246 ∷ 10248 ∷ 10250 ∷ [])
    (9 ∷ 9 ∷ 9 ∷ 9 ∷ 9 ∷ 9 ∷ 9 ∷ [])
    ≡ compaction_outcome (Ok 5) (M ++ (0 ∷ 0 ∷ 0 ∷ 0 ∷ 0 ∷ 0 ∷ 0 ∷ 0 ∷ 0 ∷ 0 ∷ 0 ∷ 0 ∷ 0 ∷ 0 ∷ 0 ∷ 0 ∷ [])) (0 ∷ 0 ∷ 0 ∷ 0 ∷ 0 ∷ 0 ∷ 9 ∷ [])
unfolding thin sort insert without_repeats changes_from passing rounds same round command links link mark
compact_M = refl

-- No words: the marks of the nodes are cleared.
pub compact_none : compacted_by 0 2 [] (9 ∷ 9 ∷ 9 ∷ []) ≡ compaction_outcome (Ok 0) [] (0 ∷ 0 ∷ 9 ∷ [])
unfolding thin sort insert without_repeats changes_from passing rounds same round command links link mark
compact_none = refl

-- A byte too few is number 5, after number 3; nothing is touched, the order of the words included.
pub compact_unmarked : compacted_by 0 3 (2052 ∷ 4 ∷ 2 ∷ []) (9 ∷ 9 ∷ []) ≡ compaction_outcome (Err ShortBuffer) (2052 ∷ 4 ∷ 2 ∷ []) (9 ∷ 9 ∷ [])
unfolding thin sort insert without_repeats changes_from passing rounds same round command links link mark
compact_unmarked = refl

-- Among plain words one of 2,097,152 or more is number 3 with the cause 1.
pub compact_illegal : compacted_by 0 3 (4 ∷ 2097156 ∷ 2 ∷ []) [] ≡ compaction_outcome (Err (IllegalWord 1 Tail)) (4 ∷ 2097156 ∷ 2 ∷ []) []
unfolding thin sort insert without_repeats changes_from passing rounds same round command links link mark
compact_illegal = refl

pub compact_many : compacted_by 4294967295 1 (7 ∷ []) (9 ∷ []) ≡ compaction_outcome (Err TooManyNodes) (7 ∷ []) (9 ∷ [])
unfolding thin sort insert without_repeats changes_from passing rounds same round command links link mark
compact_many = refl
