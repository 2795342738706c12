-- Which lanes of a pass a word may open: it goes by the word's class, its origin and sign.
use Rattle.std.specs.Prelude.{ℕ, ◌+◌, ◌*◌, ◌/◌, ◌%◌, ◌≤◌, ◌≡◌, cond, ◌&&◌, List, eqb, get_or}
use Rattle.theory.specs.Words.{parity}
use Rattle.theory.specs.Origins.{from, origin_of, origin_limit, chooses}

-- The class of a word, 0 to 7, and a word of a class.
abbrev pub class_of : ℕ → ℕ
class_of w = parity w * 4 + origin_of w

abbrev pub word_in : ℕ → ℕ
word_in i = from (i % 4) (i / 4)

-- All three lanes for a word that the set chooses and that has the sign of the pass, and none for any other.
abbrev pub lanes_for : ℕ → ℕ → ℕ → ℕ
lanes_for set sign w = cond (chooses set w && eqb (parity w) sign) 7 0

-- A list with these lanes for every class.
abbrev pub Table : ℕ → ℕ → List ℕ → Type 0
Table set sign t = (w : ℕ) → origin_of w ≤ origin_limit → get_or t (class_of w) 0 ≡ lanes_for set sign w
