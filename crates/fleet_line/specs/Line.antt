-- The lines of the sheet of `fleet` ([11]).
use Rattle.std.specs.Prelude.{ℕ, List, [], ◌∷◌, ◌++◌}
use Rattle.text_field.specs.Decimal.{decimal, digits}
use Rattle.ask_answer.specs.Ending.{field, last_field, refused_word}

-- A number of eight bytes in decimal: twenty digits are enough.
abbrev pub wide : ℕ → List ℕ
wide n = digits 20 n

-- The byte between a number and those after it: a space, or byte 10 where there are none.
abbrev pub ending : List ℕ → ℕ
ending [] = 10
ending (n ∷ ns) = 32

-- Numbers in a line.
unfoldable pub numbers_line : List ℕ → List ℕ
numbers_line [] = []
numbers_line (n ∷ ns) = wide n ++ (ending ns ∷ numbers_line ns)

-- The word total.
abbrev pub total_word : List ℕ
total_word = 116 ∷ 111 ∷ 116 ∷ 97 ∷ 108 ∷ []

-- The line of a refusal, and the last line.
unfoldable pub refused_line : ℕ → List ℕ
refused_line n = field refused_word (last_field (decimal n))

unfoldable pub total_line : List ℕ → List ℕ
total_line sums = field total_word (numbers_line sums)
