-- The numbers of a line, in the terms of the loop that writes them; and the two lines that begin with a word.
use Prim.Native.Nat.{ℕ, suc, ◌+◌, ◌*◌, ◌≤◌, ◌<◌}
use mathlib.Core.Path.{◌≡◌, refl, sym}
use mathlib.Core.Bool.{cond}
use mathlib.Core.List.{List, [], ◌∷◌, ◌++◌, append_assoc}
use native.Mathlib.Omega.{arith}
use native.Mathlib.Numerals.{add-one}
use native.Mathlib.Decide.{dec_lt}
use borrow.Author.Tests.{eq-eqb, ne_eqb}
use lib.Dec.{eqb}
use lib.ListN.{length, get_or, drop, length-append, drop_of_length-le}
use lib.Seq.{drop-cons}
use Rattle.text_field.specs.Decimal.{decimal}
use Rattle.text_field.proofs.Decimals.{most_digits}
use Rattle.ask_answer.specs.Ending.{refused_word}
use Rattle.fleet_line.specs.Line.{wide, ending, numbers_line, total_word, refused_line, total_line}
use Rattle.fleet_line.proofs.Wides.{wide_short}

ends : (l : List ℕ) (i : ℕ) → i < length l → cond (eqb (i + 1) (length l)) 10 32 ≡ ending (drop (suc i) l)
ends l i h = at (dec_lt (suc i) (length l))
  where
    at : Dec (suc i < length l) → cond (eqb (i + 1) (length l)) 10 32 ≡ ending (drop (suc i) l)
    at (yes g) = rw (ne_eqb (i + 1) (length l) (λ e. omega (arith, e)), drop-cons l (suc i) 0 g)
    at (no g) = rw (eq-eqb (i + 1) (length l) (omega arith), drop_of_length-le l {i = suc i} (omega arith))

-- A number more, with the byte after it.
pub numbers_go : (l : List ℕ) (i after : ℕ) → i < length l → after ≡ cond (eqb (i + 1) (length l)) 10 32
    → numbers_line (drop i l) ≡ (wide (get_or l i 0) ++ after ∷ []) ++ numbers_line (drop (i + 1) l)
unfolding numbers_line
numbers_go l i after h e =
    rw (drop-cons l i 0 h, e, ends l i h, add-one)
    (sym (append_assoc (wide (get_or l i 0)) (ending (drop (suc i) l) ∷ []) (numbers_line (drop (suc i) l))))

pub numbers_end : (l : List ℕ) (i : ℕ) → length l ≤ i → numbers_line (drop i l) ≡ []
unfolding numbers_line
numbers_end l i h = rw (drop_of_length-le l h)

-- A number and the byte after it are at most 21 bytes.
pub number_short : (n after : ℕ) → length (wide n ++ after ∷ []) ≤ 21
number_short n after = let h = wide_short n in simp length-append (omega (arith, h))

-- The byte after a number, as the code tests for it.
pub after_last : (i n : ℕ) → i + 1 ≡ n → ◌≡◌ {A = ℕ} 10 (cond (eqb (i + 1) n) 10 32)
after_last i n e = rw (eq-eqb (i + 1) n e)

pub after_more : (i n : ℕ) → (i + 1 ≡ n → ⊥) → ◌≡◌ {A = ℕ} 32 (cond (eqb (i + 1) n) 10 32)
after_more i n f = rw (ne_eqb (i + 1) n f)

-- The line of a refusal is the word, then the number; it takes at most 19 bytes.
pub refused_joins : (n : ℕ) → (refused_word ++ 32 ∷ []) ++ (decimal n ++ 10 ∷ []) ≡ refused_line n
unfolding refused_line
refused_joins n = refl

pub refused_short : (n : ℕ) → length (refused_line n) ≤ 19
unfolding refused_line
refused_short n = simp length-append (omega (arith, most_digits 10 n))

-- The last line is the word, then the sums.
pub total_joins : (sums : List ℕ) → (total_word ++ 32 ∷ []) ++ numbers_line sums ≡ total_line sums
unfolding total_line
total_joins sums = refl

-- The room that numbers take.
pub numbers_short : (l : List ℕ) → length (numbers_line l) ≤ length l * 21
unfolding numbers_line
numbers_short [] = omega arith
numbers_short (n ∷ l) =
    let h = wide_short n in
    let r = numbers_short l in
    simp length-append (omega (arith, h, r))

pub total_short : (sums : List ℕ) → length (total_line sums) ≤ length sums * 21 + 6
unfolding total_line
total_short sums = let h = numbers_short sums in simp length-append (omega (arith, h))
