-- Readings of completion, by computation.
use Rattle.completion.specs.declared.CompletionError.TheVariants.{Refused, Short}
use Rattle.std.specs.Prelude.{Err, Ok}
use Prim.Native.Nat.{ℕ}
use mathlib.Core.Path.{◌≡◌, refl}
use mathlib.Core.List.{List, [], ◌∷◌, ◌++◌}
use Rattle.theory.specs.Marks.{mark, link, links, command, round}
use Rattle.theory.specs.Scans.{same, rounds}
use Rattle.theory.specs.Completion.{row, rows, complete}
use Rattle.theory.specs.NetM.{M}
use Rattle.theory.specs.Origins.{chosen}
use Rattle.net_word.specs.declared.Cause.TheVariants.{Head}
use Rattle.net.specs.Passing.{passing}
use Rattle.net.specs.declared.Refusal.TheVariants.{TooManyNodes, IllegalWord, ShortBuffer}
use Rattle.completion.specs.Table.{completion_outcome, completed_by}

-- The words of net M's completed list.
abbrev completed_m : List ℕ
completed_m =
    4 ∷ 7 ∷ 9 ∷ 11 ∷ 2053 ∷ 2054 ∷ 2056 ∷ 2058 ∷ 4100 ∷ 4103 ∷ 4105 ∷ 4107 ∷ 6149 ∷ 6150 ∷ 8197 ∷ 8198 ∷ 8200 ∷ 10245 ∷ 10246 ∷ 10248 ∷ 10250 ∷ []

-- Twenty places that a caller may have left.
abbrev left : List ℕ
left = 1 ∷ 2 ∷ 3 ∷ 4 ∷ 5 ∷ 6 ∷ 7 ∷ 8 ∷ 9 ∷ 10 ∷ 11 ∷ 12 ∷ 13 ∷ 14 ∷ 15 ∷ 16 ∷ 17 ∷ 18 ∷ 19 ∷ 20 ∷ []

-- Net M: 21 words, and the two places past them are kept.
pub complete_M : completed_by 2 4 M 15 (255 ∷ 7 ∷ 9 ∷ 3 ∷ 1 ∷ 128 ∷ 200 ∷ []) (left ++ 21 ∷ 22 ∷ 23 ∷ [])
    ≡ completion_outcome (Ok 21) (0 ∷ 0 ∷ 0 ∷ 0 ∷ 0 ∷ 0 ∷ 200 ∷ []) (completed_m ++ 22 ∷ 23 ∷ [])
unfolding complete rows row chosen passing rounds same round command links link mark
complete_M = refl

-- Completing that list gives it back.
pub complete_M_again : completed_by 2 4 completed_m 15 (255 ∷ 7 ∷ 9 ∷ 3 ∷ 1 ∷ 128 ∷ 200 ∷ []) (left ++ 21 ∷ 22 ∷ 23 ∷ [])
    ≡ completion_outcome (Ok 21) (0 ∷ 0 ∷ 0 ∷ 0 ∷ 0 ∷ 0 ∷ 200 ∷ []) (completed_m ++ 22 ∷ 23 ∷ [])
unfolding complete rows row chosen passing rounds same round command links link mark
complete_M_again = refl

-- A place too few is number 8: the list is unchanged and the marks are zero.
pub complete_M_short : completed_by 2 4 M 15 (255 ∷ 7 ∷ 9 ∷ 3 ∷ 1 ∷ 128 ∷ 200 ∷ []) left ≡ completion_outcome (Err (Short 21)) (0 ∷ 0 ∷ 0 ∷ 0 ∷ 0 ∷ 0 ∷ 200 ∷ []) left
unfolding complete rows row chosen passing rounds same round command links link mark
complete_M_short = refl

-- A kind that is not itself, and a kind without links.
pub complete_not_itself : completed_by 0 1 (1 ∷ []) 15 (9 ∷ []) (7 ∷ 8 ∷ []) ≡ completion_outcome (Ok 2) (0 ∷ []) (0 ∷ 1 ∷ [])
unfolding complete rows row chosen passing rounds same round command links link mark
complete_not_itself = refl

pub complete_no_links : completed_by 0 1 [] 15 (9 ∷ []) (7 ∷ 8 ∷ []) ≡ completion_outcome (Ok 1) (0 ∷ []) (0 ∷ 8 ∷ [])
unfolding complete rows row chosen passing rounds same round command links link mark
complete_no_links = refl

-- No nodes: no words, and nothing is touched.
pub complete_empty : completed_by 0 0 [] 15 (9 ∷ []) (7 ∷ []) ≡ completion_outcome (Ok 0) (9 ∷ []) (7 ∷ [])
unfolding complete rows row chosen passing rounds same round command links link mark
complete_empty = refl

-- A byte too few is number 5, before number 8.
pub complete_short_marks : completed_by 2 4 M 15 (255 ∷ 7 ∷ 9 ∷ 3 ∷ 1 ∷ []) [] ≡ completion_outcome (Err (Refused ShortBuffer)) (255 ∷ 7 ∷ 9 ∷ 3 ∷ 1 ∷ []) []
unfolding complete rows row chosen passing rounds same round command links link mark
complete_short_marks = refl

-- Numbers 1 and 3.
pub complete_many : completed_by 4294967295 1 [] 15 [] (7 ∷ []) ≡ completion_outcome (Err (Refused TooManyNodes)) [] (7 ∷ [])
unfolding complete rows row chosen passing rounds same round command links link mark
complete_many = refl

pub complete_illegal : completed_by 1 1 (2 ∷ 0 ∷ []) 15 [] (7 ∷ []) ≡ completion_outcome (Err (Refused (IllegalWord 1 Head))) [] (7 ∷ [])
unfolding complete rows row chosen passing rounds same round command links link mark
complete_illegal = refl

-- One object, one kind: the link of origin 1 is completed to a plain word, and without that origin to nothing about the object.
pub complete_plain : completed_by 1 1 (2097154 ∷ []) 2 (9 ∷ 9 ∷ []) (7 ∷ 7 ∷ 7 ∷ []) ≡ completion_outcome (Ok 2) (0 ∷ 0 ∷ []) (2 ∷ 2050 ∷ 7 ∷ [])
unfolding complete rows row chosen passing rounds same round command links link mark
complete_plain = refl

pub complete_without : completed_by 1 1 (2097154 ∷ []) 1 (9 ∷ 9 ∷ []) (7 ∷ 7 ∷ 7 ∷ []) ≡ completion_outcome (Ok 1) (0 ∷ 0 ∷ []) (2050 ∷ 7 ∷ 7 ∷ [])
unfolding complete rows row chosen passing rounds same round command links link mark
complete_without = refl
