-- The number table of the valuation ([10]).
use Rattle.valuation.specs.declared.ValuationError.{ValuationError}
use Rattle.valuation.specs.declared.ValuationError.TheVariants as filled
use Rattle.std.specs.Prelude.{ℕ, ◌+◌, ◌*◌, List, [], ◌∷◌, ◌++◌, ltb, length, drop, Err, Ok, Result}
use Rattle.theory.specs.Origins.{chosen}
use Rattle.net.specs.Clauses.{Clause, clause, call}
use Rattle.net.specs.Table.{net_clauses, Reply, reply, refusal_reply}
use Rattle.net.specs.declared.Refusal.TheVariants.{ShortBuffer}
use Rattle.scan_start.specs.Starts.{cleared}
use Rattle.valuation.specs.Values.{own_values}

-- What a valuation answers: that the table is filled, or why it is not.
abbrev pub Filled : Type 0
Filled = Result Unit ValuationError

-- The outcome of a valuation: its answer, the table and the marks.
pub record ValuationOutcome : Type 0 where
  pub answer : Filled
  pub table : List ℕ
  pub marks : List ℕ

abbrev pub valuation_outcome : Filled → List ℕ → List ℕ → ValuationOutcome
valuation_outcome r t m = record { answer = r; table = t; marks = m }

-- Clauses 5 and 13 on n nodes, k of them kinds.
abbrev pub valuation_clauses : ℕ → List ℕ → List ℕ → ℕ → List (Clause ValuationOutcome)
valuation_clauses k t m n =
    clause 5 (ltb (length m) n) (valuation_outcome (Err (filled.Refused ShortBuffer)) t m)
    ∷ clause 13 (ltb (length t) (n * k)) (valuation_outcome (Err filled.ShortTable) t m)
    ∷ []

-- Number 0: the values in front of the table, and the marks of the nodes zero.
abbrev pub valuation_done : List ℕ → List ℕ → List ℕ → ℕ → ValuationOutcome
valuation_done values t m n = valuation_outcome (Ok tt) (values ++ drop (length values) t) (cleared n m)

abbrev pub valuation_table : ℕ → ℕ → List ℕ → ℕ → List ℕ → List ℕ → List (Clause ValuationOutcome)
valuation_table o k ws set t m = net_clauses (λ r. valuation_outcome (Err (filled.Refused r)) t m) o k ws set (valuation_clauses k t m (o + k))

-- The valuation of the words that the set chooses.
abbrev pub filled_by : ℕ → ℕ → List ℕ → ℕ → List ℕ → List ℕ → ValuationOutcome
filled_by o k ws set t m = call (valuation_table o k ws set t m) (valuation_done (own_values o k (chosen set ws)) t m (o + k))

-- The paper's number for each answer.
abbrev pub filled_reply : Filled → Reply
filled_reply (Ok tt) = reply 0 0 0
filled_reply (Err filled.ShortTable) = reply 13 0 0
filled_reply (Err (filled.Refused r)) = refusal_reply r
