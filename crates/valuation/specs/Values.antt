-- The values of a net's own valuation as a table: for each element and kind the number of the question's answer.
use Rattle.std.specs.Prelude.{ℕ, zero, suc, ◌+◌, List, [], ◌∷◌, ◌++◌, get_or}
use Rattle.theory.specs.Completion.{full_marks}
use Rattle.question.specs.Table.{answer_at, answer_number}

-- The number of the answer that a byte of marks gives at a kind: 0 none, 1 yes, 2 no, 3 both.
abbrev pub value_at : ℕ → ℕ
value_at b = answer_number (answer_at b)

-- The row of the element with the marks m: j kinds from y on.
unfoldable pub value_row : List ℕ → ℕ → ℕ → List ℕ
value_row m y zero = []
value_row m y (suc j) = value_at (get_or m y 0) ∷ value_row m (suc y) j

-- The rows of j elements from x on.
unfoldable pub value_rows : ℕ → ℕ → List ℕ → ℕ → ℕ → List ℕ
value_rows o k ws x zero = []
value_rows o k ws x (suc j) = value_row (full_marks o k ws x) o k ++ value_rows o k ws (suc x) j

-- The whole table: a row for every node in turn, object or witness of a kind.
unfoldable pub own_values : ℕ → ℕ → List ℕ → List ℕ
own_values o k ws = value_rows o k ws 0 (o + k)
