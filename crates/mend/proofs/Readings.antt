-- Readings of mending, by computation.
use Rattle.mend.specs.declared.MendError.TheVariants.{Refused, Short}
use Rattle.std.specs.Prelude.{Err, Ok}
use mathlib.Core.Path.{◌≡◌, refl}
use mathlib.Core.List.{[], ◌∷◌}
use Rattle.theory.specs.Marks.{mark, link, links, command, round}
use Rattle.theory.specs.Scans.{same, rounds}
use Rattle.theory.specs.Mending.{threes, first_with, kept_from, dropped_from}
use Rattle.net_word.specs.declared.Cause.TheVariants.{Tail}
use Rattle.net.specs.Passing.{passing}
use Rattle.net.specs.declared.Refusal.TheVariants.{IllegalWord, ShortBuffer}
use Rattle.mend.specs.Table.{mending_outcome, mended_by}

-- Object 0 is kind 1 and is not, twice over: a repeat of a kept word is kept, each dropped word is listed, and past them both lists are as they were.
pub mend_two : mended_by 1 2 (2 ∷ 3 ∷ 2 ∷ 2051 ∷ []) (9 ∷ 9 ∷ 9 ∷ 9 ∷ 9 ∷ []) (8 ∷ 8 ∷ 8 ∷ 8 ∷ 8 ∷ 8 ∷ 8 ∷ 8 ∷ 8 ∷ 8 ∷ 8 ∷ 8 ∷ []) (7 ∷ 7 ∷ 7 ∷ 7 ∷ [])
    ≡ mending_outcome (Ok (2, 2)) (2 ∷ 2 ∷ 9 ∷ 9 ∷ 9 ∷ []) (3 ∷ 0 ∷ 1 ∷ 2051 ∷ 0 ∷ 1 ∷ 8 ∷ 8 ∷ 8 ∷ 8 ∷ 8 ∷ 8 ∷ []) (0 ∷ 0 ∷ 0 ∷ 7 ∷ [])
unfolding kept_from dropped_from threes first_with passing rounds same round command links link mark
mend_two = refl

-- A kind that is not itself clashes at itself; no object is needed.
pub mend_not_itself : mended_by 0 1 (1 ∷ []) (9 ∷ []) (8 ∷ 8 ∷ 8 ∷ []) (7 ∷ []) ≡ mending_outcome (Ok (0, 1)) (9 ∷ []) (1 ∷ 0 ∷ 0 ∷ []) (0 ∷ [])
unfolding kept_from dropped_from threes first_with passing rounds same round command links link mark
mend_not_itself = refl

-- Of 0 ↛ 2, 0 → 1 and 1 → 2 the word listed last goes: 0 would be and not be 0 itself, its smallest kind.
pub mend_last : mended_by 0 3 (5 ∷ 2 ∷ 2052 ∷ []) (9 ∷ 9 ∷ 9 ∷ []) (8 ∷ 8 ∷ 8 ∷ 8 ∷ 8 ∷ 8 ∷ 8 ∷ 8 ∷ 8 ∷ []) (7 ∷ 7 ∷ 7 ∷ [])
    ≡ mending_outcome (Ok (2, 1)) (5 ∷ 2 ∷ 9 ∷ []) (2052 ∷ 0 ∷ 0 ∷ 8 ∷ 8 ∷ 8 ∷ 8 ∷ 8 ∷ 8 ∷ []) (0 ∷ 0 ∷ 0 ∷ [])
unfolding kept_from dropped_from threes first_with passing rounds same round command links link mark
mend_last = refl

-- Eleven places are room for three dropped words, not for four: number 8, by the words read and not by what would be dropped.
pub mend_full : mended_by 1 2 (2 ∷ 3 ∷ 2 ∷ 2051 ∷ []) (9 ∷ 9 ∷ 9 ∷ 9 ∷ []) (8 ∷ 8 ∷ 8 ∷ 8 ∷ 8 ∷ 8 ∷ 8 ∷ 8 ∷ 8 ∷ 8 ∷ 8 ∷ []) (7 ∷ 7 ∷ 7 ∷ 7 ∷ [])
    ≡ mending_outcome (Err (Short 4)) (9 ∷ 9 ∷ 9 ∷ 9 ∷ []) (8 ∷ 8 ∷ 8 ∷ 8 ∷ 8 ∷ 8 ∷ 8 ∷ 8 ∷ 8 ∷ 8 ∷ 8 ∷ []) (0 ∷ 0 ∷ 0 ∷ 7 ∷ [])
unfolding kept_from dropped_from threes first_with passing rounds same round command links link mark
mend_full = refl

pub mend_no_room : mended_by 1 2 (2 ∷ []) [] (8 ∷ 8 ∷ 8 ∷ []) (7 ∷ 7 ∷ 7 ∷ []) ≡ mending_outcome (Err (Short 1)) [] (8 ∷ 8 ∷ 8 ∷ []) (0 ∷ 0 ∷ 0 ∷ [])
unfolding kept_from dropped_from threes first_with passing rounds same round command links link mark
mend_no_room = refl

-- A byte too few is number 5, before number 8.
pub mend_short_marks : mended_by 1 2 (2 ∷ []) [] [] (7 ∷ 7 ∷ []) ≡ mending_outcome (Err (Refused ShortBuffer)) [] [] (7 ∷ 7 ∷ [])
unfolding kept_from dropped_from threes first_with passing rounds same round command links link mark
mend_short_marks = refl

-- No words: the marks of the nodes are cleared.
pub mend_none : mended_by 1 1 [] (9 ∷ []) [] (7 ∷ 7 ∷ 7 ∷ []) ≡ mending_outcome (Ok (0, 0)) (9 ∷ []) [] (0 ∷ 0 ∷ 7 ∷ [])
unfolding kept_from dropped_from threes first_with passing rounds same round command links link mark
mend_none = refl

-- Among plain words one of 2,097,152 or more is number 3 with the cause 1.
pub mend_illegal : mended_by 1 2 (2 ∷ 2097154 ∷ []) [] [] [] ≡ mending_outcome (Err (Refused (IllegalWord 1 Tail))) [] [] []
unfolding kept_from dropped_from threes first_with passing rounds same round command links link mark
mend_illegal = refl
