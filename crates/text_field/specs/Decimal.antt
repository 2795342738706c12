-- Numbers in decimal, and what decimal digits say.
use Rattle.std.specs.Prelude.{ℕ, zero, suc, ◌+◌, ◌*◌, ◌-◌, ◌/◌, ◌%◌, ◌≤◌, ◌<◌, cond, List, [], ◌∷◌, ◌++◌, ltb}

-- A number in decimal, of at most so many digits.
unfoldable pub digits : ℕ → ℕ → List ℕ
digits zero n = []
digits (suc f) n = cond (ltb n 10) ((48 + n) ∷ []) (digits f (n / 10) ++ ((48 + n % 10) ∷ []))

-- A number in decimal: ten digits are enough for four bytes.
abbrev pub decimal : ℕ → List ℕ
decimal n = digits 10 n

-- The number that a list of digits says, where n stands before it: each digit is worth its byte less 48, and ten times what stands before it.
unfoldable pub value_from : ℕ → List ℕ → ℕ
value_from n [] = n
value_from n (b ∷ l) = value_from (n * 10 + (b - 48)) l

abbrev pub value : List ℕ → ℕ
value l = value_from 0 l

-- The bytes of the ten digits.
pub record Digit (b : ℕ) : Type 0 where
  pub low : 48 ≤ b
  pub high : b < 58
