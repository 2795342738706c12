-- Readings of the question of rows, by computation, on the rows of net M.
use Rattle.std.specs.Prelude.{Err, Ok}
use Prim.Native.Nat.{ℕ}
use mathlib.Core.Path.{◌≡◌, refl}
use mathlib.Core.List.{List, [], ◌∷◌}
use lib.ListN.{replicate}
use Rattle.net.specs.declared.Refusal.TheVariants.{TooManyNodes, BadQuestion, ShortBuffer}
use Rattle.question.specs.declared.Answer.TheVariants.{None, Yes, No, Both}
use Rattle.rows_answer.specs.Table.{answered_in_rows}

abbrev yeses_m : List ℕ
yeses_m = 4 ∷ 56 ∷ 4 ∷ 8 ∷ 24 ∷ 56 ∷ []

abbrev noes_m : List ℕ
noes_m = 56 ∷ 4 ∷ 56 ∷ 4 ∷ 4 ∷ 4 ∷ []

-- The five questions about net M.
pub rows_0_4 : answered_in_rows 2 4 yeses_m noes_m 0 4 ≡ Ok No
rows_0_4 = refl

pub rows_1_4 : answered_in_rows 2 4 yeses_m noes_m 1 4 ≡ Ok Yes
rows_1_4 = refl

pub rows_2_5 : answered_in_rows 2 4 yeses_m noes_m 2 5 ≡ Ok No
rows_2_5 = refl

pub rows_3_4 : answered_in_rows 2 4 yeses_m noes_m 3 4 ≡ Ok None
rows_3_4 = refl

pub rows_3_0 : answered_in_rows 2 4 yeses_m noes_m 3 0 ≡ Err BadQuestion
rows_3_0 = refl

-- An object that is and is not a kind.
pub rows_both : answered_in_rows 1 1 (2 ∷ 2 ∷ []) (2 ∷ 0 ∷ []) 0 1 ≡ Ok Both
rows_both = refl

-- Number 1 comes before number 4, number 4 before number 5, and number 5 is given for a word too few in either buffer.
pub rows_many : answered_in_rows 1024 1 [] [] 2000 0 ≡ Err TooManyNodes
rows_many = refl

pub rows_bad_first : answered_in_rows 2 4 [] [] 6 4 ≡ Err BadQuestion
rows_bad_first = refl

pub rows_yes_short : answered_in_rows 2 4 (4 ∷ 56 ∷ 4 ∷ 8 ∷ 24 ∷ []) noes_m 0 4 ≡ Err ShortBuffer
rows_yes_short = refl

pub rows_no_short : answered_in_rows 2 4 yeses_m (56 ∷ 4 ∷ 56 ∷ 4 ∷ 4 ∷ []) 0 4 ≡ Err ShortBuffer
rows_no_short = refl

-- The words of 64 rows more.
abbrev wide : List ℕ
wide = replicate 128 0

-- 65 kinds take two words a row: bit 63 of row 0 stands in its first word, bit 64 in its second.
pub rows_63 : answered_in_rows 0 65 (9223372036854775809 ∷ 1 ∷ wide) (0 ∷ 0 ∷ wide) 0 63 ≡ Ok Yes
rows_63 = refl

pub rows_64 : answered_in_rows 0 65 (9223372036854775809 ∷ 1 ∷ wide) (0 ∷ 0 ∷ wide) 0 64 ≡ Ok Yes
rows_64 = refl
