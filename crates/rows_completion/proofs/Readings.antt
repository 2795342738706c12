-- Readings of the completion by rows, by computation.
use Rattle.completion.specs.declared.CompletionError.TheVariants.{Refused, Short}
use Rattle.std.specs.Prelude.{Err, Ok}
use Prim.Native.Nat.{ℕ}
use mathlib.Core.Path.{◌≡◌, refl}
use mathlib.Core.List.{List, [], ◌∷◌, ◌++◌}
use Rattle.theory.specs.Marks.{mark, link, links, command, round}
use Rattle.theory.specs.Scans.{same, rounds}
use Rattle.theory.specs.Completion.{row, rows, complete}
use Rattle.theory.specs.NetM.{M}
use Rattle.theory.specs.Origins.{chosen}
use Rattle.theory.specs.Rows.{bits_of, words_of, rows_of, supported_rows}
use Rattle.net_word.specs.declared.Cause.TheVariants.{Head}
use Rattle.net.specs.Passing.{passing}
use Rattle.net.specs.declared.Refusal.TheVariants.{IllegalWord, BadSet, ShortBuffer}
use Rattle.rows_completion.specs.Table.{rows_outcome, completed_by_rows}

-- The words of net M's completed list, and its rows.
abbrev completed_m : List ℕ
completed_m =
    4 ∷ 7 ∷ 9 ∷ 11 ∷ 2053 ∷ 2054 ∷ 2056 ∷ 2058 ∷ 4100 ∷ 4103 ∷ 4105 ∷ 4107 ∷ 6149 ∷ 6150 ∷ 8197 ∷ 8198 ∷ 8200 ∷ 10245 ∷ 10246 ∷ 10248 ∷ 10250 ∷ []

abbrev yeses_m : List ℕ
yeses_m = 4 ∷ 56 ∷ 4 ∷ 8 ∷ 24 ∷ 56 ∷ []

abbrev noes_m : List ℕ
noes_m = 56 ∷ 4 ∷ 56 ∷ 4 ∷ 4 ∷ 4 ∷ []

-- Twenty places that a caller may have left, and six rows with one word more.
abbrev left : List ℕ
left = 1 ∷ 2 ∷ 3 ∷ 4 ∷ 5 ∷ 6 ∷ 7 ∷ 8 ∷ 9 ∷ 10 ∷ 11 ∷ 12 ∷ 13 ∷ 14 ∷ 15 ∷ 16 ∷ 17 ∷ 18 ∷ 19 ∷ 20 ∷ []

abbrev garbage : List ℕ
garbage = 18446744073709551615 ∷ 7 ∷ 0 ∷ 3 ∷ 1 ∷ 128 ∷ 200 ∷ []

-- Net M: the rows, the list, and what stands past each kept.
pub rows_M : completed_by_rows 2 4 M 15 garbage garbage (left ++ 21 ∷ 22 ∷ 23 ∷ []) ≡ rows_outcome (Ok 21) (yeses_m ++ 200 ∷ []) (noes_m ++ 200 ∷ []) (completed_m ++ 22 ∷ 23 ∷ [])
unfolding supported_rows rows_of words_of bits_of complete rows row chosen passing rounds same round command links link mark
rows_M = refl

-- A place too few is number 8: the list is unchanged, the rows are filled.
pub rows_M_short : completed_by_rows 2 4 M 15 garbage garbage left ≡ rows_outcome (Err (Short 21)) (yeses_m ++ 200 ∷ []) (noes_m ++ 200 ∷ []) left
unfolding supported_rows rows_of words_of bits_of complete rows row chosen passing rounds same round command links link mark
rows_M_short = refl

-- A word too few in either buffer is number 5, before number 8.
pub rows_M_yes_short : completed_by_rows 2 4 M 15 (1 ∷ 2 ∷ 3 ∷ 4 ∷ 5 ∷ []) garbage [] ≡ rows_outcome (Err (Refused ShortBuffer)) (1 ∷ 2 ∷ 3 ∷ 4 ∷ 5 ∷ []) garbage []
unfolding supported_rows rows_of words_of bits_of complete rows row chosen passing rounds same round command links link mark
rows_M_yes_short = refl

pub rows_M_no_short : completed_by_rows 2 4 M 15 garbage (1 ∷ 2 ∷ 3 ∷ 4 ∷ 5 ∷ []) [] ≡ rows_outcome (Err (Refused ShortBuffer)) garbage (1 ∷ 2 ∷ 3 ∷ 4 ∷ 5 ∷ []) []
unfolding supported_rows rows_of words_of bits_of complete rows row chosen passing rounds same round command links link mark
rows_M_no_short = refl

-- No nodes take no rows; numbers 15 and 3 come before number 5.
pub rows_empty : completed_by_rows 0 0 [] 15 [] [] (7 ∷ []) ≡ rows_outcome (Ok 0) [] [] (7 ∷ [])
unfolding supported_rows rows_of words_of bits_of complete rows row chosen passing rounds same round command links link mark
rows_empty = refl

pub rows_bad_set : completed_by_rows 1 1 (2 ∷ 0 ∷ []) 16 [] [] (7 ∷ []) ≡ rows_outcome (Err (Refused BadSet)) [] [] (7 ∷ [])
unfolding supported_rows rows_of words_of bits_of complete rows row chosen passing rounds same round command links link mark
rows_bad_set = refl

pub rows_illegal : completed_by_rows 1 1 (2 ∷ 0 ∷ []) 15 [] [] (7 ∷ []) ≡ rows_outcome (Err (Refused (IllegalWord 1 Head))) [] [] (7 ∷ [])
unfolding supported_rows rows_of words_of bits_of complete rows row chosen passing rounds same round command links link mark
rows_illegal = refl

-- One object, one kind: a link of origin 1 in the rows, and without that origin none about the object.
pub rows_plain : completed_by_rows 1 1 (2097154 ∷ []) 2 (9 ∷ 9 ∷ []) (9 ∷ 9 ∷ []) (7 ∷ 7 ∷ 7 ∷ []) ≡ rows_outcome (Ok 2) (2 ∷ 2 ∷ []) (0 ∷ 0 ∷ []) (2 ∷ 2050 ∷ 7 ∷ [])
unfolding supported_rows rows_of words_of bits_of complete rows row chosen passing rounds same round command links link mark
rows_plain = refl

pub rows_without : completed_by_rows 1 1 (2097154 ∷ []) 1 (9 ∷ 9 ∷ []) (9 ∷ 9 ∷ []) (7 ∷ 7 ∷ 7 ∷ []) ≡ rows_outcome (Ok 1) (0 ∷ 2 ∷ []) (0 ∷ 0 ∷ []) (2050 ∷ 7 ∷ 7 ∷ [])
unfolding supported_rows rows_of words_of bits_of complete rows row chosen passing rounds same round command links link mark
rows_without = refl
