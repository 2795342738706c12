-- The number table of the test of a statement in a lent valuation ([10]).
use Rattle.satisfies.specs.declared.TestError.{TestError}
use Rattle.satisfies.specs.declared.TestError.TheVariants.{BadTable, Refused}
use Rattle.std.specs.Prelude.{ℕ, zero, suc, ◌+◌, ◌*◌, Bool, true, not, ◌&&◌, ◌||◌, List, [], ◌∷◌, ltb, leb, length, get_or, Err, Ok, false, Result}
use Rattle.theory.specs.Words.{node_limit, sign_at}
use Rattle.theory.specs.Valuations.{satisfies}
use Rattle.net.specs.Clauses.{Clause, clause, call}
use Rattle.net.specs.Table.{bad_statement, Reply, reply, refusal_reply}
use Rattle.net.specs.declared.Refusal.TheVariants.{TooManyNodes, BadQuestion}

-- None of j bytes from place i on is above 3.
unfoldable pub low_bytes : List ℕ → ℕ → ℕ → Bool
low_bytes t i zero = true
low_bytes t i (suc j) = leb (get_or t i 0) 3 && low_bytes t (suc i) j

-- A table is none for n elements and k kinds: it is below n × k bytes, or one of those bytes is above 3.
abbrev pub bad_table : ℕ → ℕ → List ℕ → Bool
bad_table n k t = ltb (length t) (n * k) || not (low_bytes t 0 (n * k))

-- What the test answers: whether the statement holds, or why it was not tried.
abbrev pub Tested : Type 0
Tested = Result Bool TestError

-- Clauses 1, 4 and 13. No words, set and marks are lent, so that 2, 15, 3 and 5 cannot be.
abbrev pub satisfies_table : ℕ → ℕ → List ℕ → ℕ → ℕ → ℕ → List (Clause Tested)
satisfies_table o k t x y sign =
    clause 1 (ltb node_limit (o + k)) (Err (Refused TooManyNodes))
    ∷ clause 4 (bad_statement o (o + k) x y sign) (Err (Refused BadQuestion))
    ∷ clause 13 (bad_table (o + k) k t) (Err BadTable)
    ∷ []

-- Number 0: yes or no to the statement.
abbrev pub satisfies_done : ℕ → ℕ → List ℕ → ℕ → ℕ → ℕ → Tested
satisfies_done o k t x y sign = Ok (satisfies o k t x y (sign_at sign))

-- Whether x → y (sign 0) or x ↛ y (sign 1) holds in the valuation that the table stands for.
abbrev pub tested_by : ℕ → ℕ → List ℕ → ℕ → ℕ → ℕ → Tested
tested_by o k t x y sign = call (satisfies_table o k t x y sign) (satisfies_done o k t x y sign)

-- The paper's number for each answer; that yes is the value 1 and no 0 is this project's.
abbrev pub tested_reply : Tested → Reply
tested_reply (Ok true) = reply 0 1 0
tested_reply (Ok false) = reply 0 0 0
tested_reply (Err BadTable) = reply 13 0 0
tested_reply (Err (Refused r)) = refusal_reply r
