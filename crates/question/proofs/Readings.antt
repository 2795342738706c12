-- Readings of the question, by computation.
use Rattle.std.specs.Prelude.{Err, Ok}
use Prim.Native.Nat.{ℕ}
use mathlib.Core.Path.{◌≡◌, refl}
use mathlib.Core.List.{List, [], ◌∷◌}
use Rattle.theory.specs.Marks.{mark, link, links, command, round, blank}
use Rattle.theory.specs.Scans.{same, rounds}
use Rattle.theory.specs.NetM.{M}
use Rattle.theory.specs.Origins.{chosen}
use Rattle.net_word.specs.declared.Cause.TheVariants.{Head}
use Rattle.net.specs.Passing.{passing}
use Rattle.net.specs.declared.Refusal.TheVariants.{IllegalWord, BadQuestion, ShortBuffer}
use Rattle.question.specs.Table.{question_outcome, questioned}
use Rattle.question.specs.declared.Answer.TheVariants.{None, Yes, No, Both}

-- Eight bytes that a caller may have left.
abbrev left : List ℕ
left = 255 ∷ 7 ∷ 9 ∷ 3 ∷ 1 ∷ 128 ∷ 200 ∷ 201 ∷ []

-- The five questions about net M.
pub ask_0_4 : questioned 2 4 M 15 0 4 left ≡ question_outcome (Ok (No, 5)) (5 ∷ 2 ∷ 4 ∷ 2 ∷ 2 ∷ 2 ∷ 200 ∷ 201 ∷ [])
unfolding chosen passing rounds same round command links link mark
ask_0_4 = refl

pub ask_1_4 : questioned 2 4 M 15 1 4 left ≡ question_outcome (Ok (Yes, 5)) (2 ∷ 5 ∷ 2 ∷ 4 ∷ 4 ∷ 4 ∷ 200 ∷ 201 ∷ [])
unfolding chosen passing rounds same round command links link mark
ask_1_4 = refl

pub ask_2_5 : questioned 2 4 M 15 2 5 left ≡ question_outcome (Ok (No, 5)) (1 ∷ 2 ∷ 5 ∷ 2 ∷ 2 ∷ 2 ∷ 200 ∷ 201 ∷ [])
unfolding chosen passing rounds same round command links link mark
ask_2_5 = refl

pub ask_3_4 : questioned 2 4 M 15 3 4 left ≡ question_outcome (Ok (None, 4)) (2 ∷ 1 ∷ 2 ∷ 5 ∷ 1 ∷ 1 ∷ 200 ∷ 201 ∷ [])
unfolding chosen passing rounds same round command links link mark
ask_3_4 = refl

pub ask_3_0 : questioned 2 4 M 15 3 0 left ≡ question_outcome (Err BadQuestion) left
unfolding chosen passing rounds same round command links link mark
ask_3_0 = refl

-- Number 3 comes before number 4, number 4 before number 5, and number 5 is given for a byte too few.
pub ask_illegal : questioned 1 1 (2 ∷ 0 ∷ []) 15 5 5 [] ≡ question_outcome (Err (IllegalWord 1 Head)) []
unfolding chosen passing rounds same round command links link mark
ask_illegal = refl

pub ask_bad_first : questioned 2 4 M 15 6 4 [] ≡ question_outcome (Err BadQuestion) []
unfolding chosen passing rounds same round command links link mark
ask_bad_first = refl

pub ask_short_buffer : questioned 2 4 M 15 0 4 (255 ∷ 7 ∷ 9 ∷ 3 ∷ 1 ∷ []) ≡ question_outcome (Err ShortBuffer) (255 ∷ 7 ∷ 9 ∷ 3 ∷ 1 ∷ [])
unfolding chosen passing rounds same round command links link mark
ask_short_buffer = refl

-- An object that is and is not a kind: both there, and about the other kind nothing is said.
pub ask_0_1 : questioned 1 2 (2 ∷ 3 ∷ []) 15 0 1 (0 ∷ 0 ∷ 0 ∷ []) ≡ question_outcome (Ok (Both, 2)) (7 ∷ 6 ∷ 0 ∷ [])
unfolding chosen passing rounds same round command links link mark
ask_0_1 = refl

pub ask_0_2 : questioned 1 2 (2 ∷ 3 ∷ []) 15 0 2 (0 ∷ 0 ∷ 0 ∷ []) ≡ question_outcome (Ok (None, 2)) (7 ∷ 6 ∷ 0 ∷ [])
unfolding chosen passing rounds same round command links link mark
ask_0_2 = refl

-- Net M with its third word, 2 ↛ 3, entered by origin 3: without that origin nothing keeps 0 from being 4.
pub ask_all_origins : (questioned 2 4 (4 ∷ 2058 ∷ 6295559 ∷ 8198 ∷ 10248 ∷ []) 15 0 4 (blank 6)).answer ≡ Ok (No, 5)
unfolding chosen passing rounds same round command links link mark
ask_all_origins = refl

pub ask_without_3 : (questioned 2 4 (4 ∷ 2058 ∷ 6295559 ∷ 8198 ∷ 10248 ∷ []) 7 0 4 (blank 6)).answer ≡ Ok (None, 2)
unfolding chosen passing rounds same round command links link mark
ask_without_3 = refl
