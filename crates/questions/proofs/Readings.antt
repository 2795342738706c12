-- Readings of a screenful, by computation.
use Rattle.questions.specs.declared.PairsError.TheVariants.{BadPairs, Refused}
use Rattle.std.specs.Prelude.{Err, Ok}
use Prim.Native.Nat.{ℕ}
use mathlib.Core.Path.{◌≡◌, refl}
use mathlib.Core.List.{List, [], ◌∷◌}
use lib.ListN.{replicate}
use Rattle.theory.specs.Marks.{mark, link, links, command, round}
use Rattle.theory.specs.Scans.{same, rounds}
use Rattle.theory.specs.NetM.{M}
use Rattle.theory.specs.Origins.{chosen}
use Rattle.net_word.specs.declared.Cause.TheVariants.{Head}
use Rattle.net.specs.Passing.{passing}
use Rattle.net.specs.declared.Refusal.TheVariants.{IllegalWord, ShortBuffer}
use Rattle.questions.specs.Table.{answers_from, marks_from, questions_outcome, questioned_all}

-- Eight bytes that a caller may have left.
abbrev left : List ℕ
left = 255 ∷ 7 ∷ 9 ∷ 3 ∷ 1 ∷ 128 ∷ 200 ∷ 201 ∷ []

-- The five questions about net M, the last of them bad: the marks are those of the one before it. A byte past the five is kept.
pub screen_M : questioned_all 2 4 M 15 (0 ∷ 4 ∷ 1 ∷ 4 ∷ 2 ∷ 5 ∷ 3 ∷ 4 ∷ 3 ∷ 0 ∷ []) (9 ∷ 9 ∷ 9 ∷ 9 ∷ 9 ∷ 77 ∷ []) left
    ≡ questions_outcome (Ok tt) (2 ∷ 1 ∷ 2 ∷ 0 ∷ 255 ∷ 77 ∷ []) (2 ∷ 1 ∷ 2 ∷ 5 ∷ 1 ∷ 1 ∷ 200 ∷ 201 ∷ [])
unfolding answers_from marks_from chosen passing rounds same round command links link mark
screen_M = refl

-- Back to a node after another, and a bad pair between questions about one.
pub screen_back : questioned_all 2 4 M 15 (0 ∷ 4 ∷ 1 ∷ 4 ∷ 0 ∷ 2 ∷ 0 ∷ 1 ∷ 0 ∷ 3 ∷ []) (9 ∷ 9 ∷ 9 ∷ 9 ∷ 9 ∷ []) left
    ≡ questions_outcome (Ok tt) (2 ∷ 1 ∷ 1 ∷ 255 ∷ 2 ∷ []) (5 ∷ 2 ∷ 4 ∷ 2 ∷ 2 ∷ 2 ∷ 200 ∷ 201 ∷ [])
unfolding answers_from marks_from chosen passing rounds same round command links link mark
screen_back = refl

-- Both is 3.
pub screen_both : questioned_all 1 2 (2 ∷ 3 ∷ []) 15 (0 ∷ 1 ∷ 0 ∷ 2 ∷ []) (9 ∷ 9 ∷ []) (0 ∷ 0 ∷ 0 ∷ []) ≡ questions_outcome (Ok tt) (3 ∷ 0 ∷ []) (7 ∷ 6 ∷ 0 ∷ [])
unfolding answers_from marks_from chosen passing rounds same round command links link mark
screen_both = refl

-- Bad pairs alone touch no marks, and no pairs change nothing.
pub screen_bad : questioned_all 2 4 M 15 (6 ∷ 4 ∷ 0 ∷ 1 ∷ 65535 ∷ 65535 ∷ []) (9 ∷ 9 ∷ 9 ∷ 9 ∷ []) left ≡ questions_outcome (Ok tt) (255 ∷ 255 ∷ 255 ∷ 9 ∷ []) left
unfolding answers_from marks_from chosen passing rounds same round command links link mark
screen_bad = refl

pub screen_empty : questioned_all 2 4 M 15 [] (9 ∷ []) left ≡ questions_outcome (Ok tt) (9 ∷ []) left
unfolding answers_from marks_from chosen passing rounds same round command links link mark
screen_empty = refl

-- Number 3 comes before number 10, number 10 before number 5, and number 5 is given with no pairs.
pub screen_illegal : questioned_all 1 1 (2 ∷ 0 ∷ []) 15 (0 ∷ []) [] [] ≡ questions_outcome (Err (Refused (IllegalWord 1 Head))) [] []
unfolding answers_from marks_from chosen passing rounds same round command links link mark
screen_illegal = refl

pub screen_odd : questioned_all 2 4 M 15 (0 ∷ 4 ∷ 1 ∷ []) (9 ∷ 9 ∷ []) [] ≡ questions_outcome (Err BadPairs) (9 ∷ 9 ∷ []) []
unfolding answers_from marks_from chosen passing rounds same round command links link mark
screen_odd = refl

pub screen_few_bytes : questioned_all 2 4 M 15 (0 ∷ 4 ∷ 1 ∷ 4 ∷ []) (9 ∷ []) left ≡ questions_outcome (Err BadPairs) (9 ∷ []) left
unfolding answers_from marks_from chosen passing rounds same round command links link mark
screen_few_bytes = refl

pub screen_short : questioned_all 2 4 M 15 [] [] (1 ∷ 2 ∷ 3 ∷ 4 ∷ 5 ∷ []) ≡ questions_outcome (Err (Refused ShortBuffer)) [] (1 ∷ 2 ∷ 3 ∷ 4 ∷ 5 ∷ [])
unfolding answers_from marks_from chosen passing rounds same round command links link mark
screen_short = refl

-- 64 pairs are asked, 65 are not.
pub screen_64 : (questioned_all 0 1 [] 15 (replicate 128 0) (replicate 65 9) (0 ∷ [])).answer ≡ Ok tt
unfolding answers_from marks_from chosen passing rounds same round command links link mark
screen_64 = refl

pub screen_65 : questioned_all 0 1 [] 15 (replicate 130 0) (replicate 65 9) (0 ∷ []) ≡ questions_outcome (Err BadPairs) (replicate 65 9) (0 ∷ [])
unfolding answers_from marks_from chosen passing rounds same round command links link mark
screen_65 = refl
