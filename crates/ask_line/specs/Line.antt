-- The line that `ask` prints for a question, and the words with which its other lines begin.
use Rattle.std.specs.Prelude.{ℕ, List, [], ◌∷◌}
use Rattle.ask_answer.specs.Ending.{field, answer_fields}
use Rattle.text_field.specs.Decimal.{decimal}
use Rattle.question.specs.Table.{Asked}

-- The words file and net.
abbrev pub file_word : List ℕ
file_word = 102 ∷ 105 ∷ 108 ∷ 101 ∷ []

abbrev pub net_word : List ℕ
net_word = 110 ∷ 101 ∷ 116 ∷ []

-- A question's line.
unfoldable pub line_of : ℕ → ℕ → Asked → List ℕ
line_of x y a = field (decimal x) (field (decimal y) (answer_fields a))
