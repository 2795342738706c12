-- The number table of the completion by rows.
use Rattle.completion.specs.declared.CompletionError.TheVariants as completed
use Rattle.std.specs.Prelude.{ℕ, ◌+◌, ◌||◌, List, [], ◌∷◌, ltb, length, Err, Ok}
use Rattle.theory_laws.specs.Over.{over}
use Rattle.theory.specs.Words.{is, isnt}
use Rattle.theory.specs.Origins.{chosen}
use Rattle.theory.specs.Completion.{complete}
use Rattle.theory.specs.Rows.{rows_size, supported_rows}
use Rattle.net.specs.Clauses.{Clause, clause, call}
use Rattle.net.specs.Table.{net_clauses}
use Rattle.net.specs.declared.Refusal.TheVariants.{ShortBuffer}
use Rattle.completion.specs.Table.{Completed}

-- The outcome of a completion by rows: its answer, which is one of a completion, the yes rows, the no rows and the list.
pub record RowsOutcome : Type 0 where
  pub answer : Completed
  pub yeses : List ℕ
  pub noes : List ℕ
  pub list : List ℕ

abbrev pub rows_outcome : Completed → List ℕ → List ℕ → List ℕ → RowsOutcome
rows_outcome r yeses noes l = record { answer = r; yeses = yeses; noes = noes; list = l }

-- What is left where the rows are filled: just what the words support in front of them, the words behind as they were.
abbrev pub rows_left : ℕ → ℕ → List ℕ → Completed → List ℕ → List ℕ → List ℕ → RowsOutcome
rows_left o k ws r yeses noes l = rows_outcome r (over (supported_rows o k ws is) yeses) (over (supported_rows o k ws isnt) noes) l

-- Clauses 5 and 8 on n nodes and plain words: either buffer is short; the list is short, and the rows are filled.
abbrev pub rows_clauses : ℕ → ℕ → List ℕ → List ℕ → List ℕ → List ℕ → ℕ → List (Clause RowsOutcome)
rows_clauses o k ws yeses noes l n =
    clause 5 (ltb (length yeses) (rows_size n) || ltb (length noes) (rows_size n)) (rows_outcome (Err (completed.Refused ShortBuffer)) yeses noes l)
    ∷ clause 8 (ltb (length l) (length (complete o k ws))) (rows_left o k ws (Err (completed.Short (length (complete o k ws)))) yeses noes l)
    ∷ []

-- Number 0: how many words are supported, the rows filled, and the words in front of the list.
abbrev pub rows_done : ℕ → ℕ → List ℕ → List ℕ → List ℕ → List ℕ → ℕ → RowsOutcome
rows_done o k ws yeses noes l n = rows_left o k ws (Ok (length (complete o k ws))) yeses noes (over (complete o k ws) l)

abbrev pub rows_table : ℕ → ℕ → List ℕ → ℕ → List ℕ → List ℕ → List ℕ → List (Clause RowsOutcome)
rows_table o k ws set yeses noes l = net_clauses (λ r. rows_outcome (Err (completed.Refused r)) yeses noes l) o k ws set (rows_clauses o k (chosen set ws) yeses noes l (o + k))

-- The completion by rows of the words that the set chooses.
abbrev pub completed_by_rows : ℕ → ℕ → List ℕ → ℕ → List ℕ → List ℕ → List ℕ → RowsOutcome
completed_by_rows o k ws set yeses noes l = call (rows_table o k ws set yeses noes l) (rows_done o k (chosen set ws) yeses noes l (o + k))
