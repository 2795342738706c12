-- The number table of the marker unit ([13]).
use Rattle.unit.specs.declared.UnitError.{UnitError}
use Rattle.unit.specs.declared.UnitError.TheVariants.{Faulty, Refused, Spent}
use Rattle.std.specs.Prelude.{ℕ, ◌+◌, Bool, not, cond, List, [], ◌∷◌, ◌++◌, ltb, leb, length, take, drop, Err, Ok, Result}
use Rattle.theory.specs.Origins.{chosen}
use Rattle.net.specs.Clauses.{Clause, clause, call}
use Rattle.net.specs.Table.{net_clauses, Reply, reply, refusal_reply}
use Rattle.net.specs.declared.Refusal.TheVariants.{ShortBuffer}
use Rattle.unit_program.specs.Faults.{first_fault}
use Rattle.unit_program.specs.Runs.{run}

-- What a run of the unit answers: the commands run, or why there is no result.
abbrev pub Simulated : Type 0
Simulated = Result ℕ UnitError

-- The outcome of a run of the unit: its answer and the marks.
pub record UnitOutcome : Type 0 where
  pub answer : Simulated
  pub marks : List ℕ

abbrev pub unit_outcome : Simulated → List ℕ → UnitOutcome
unit_outcome r m = record { answer = r; marks = m }

-- Some command of the program is at fault, over n nodes.
abbrev pub bad_program : ℕ → List ℕ → Bool
bad_program n program = ltb (first_fault n program) (length program)

-- The largest place that a reply can tell. A fault further on, which needs a program of more than 4,294,967,296 commands, is told as at this place.
abbrev pub place_limit : ℕ
place_limit = 4294967295

abbrev pub told_place : ℕ → ℕ
told_place p = cond (leb p place_limit) p place_limit

-- Clauses 5, 16 and 6 on n nodes and plain words. The marks are read as they are lent.
abbrev pub unit_clauses : List ℕ → List ℕ → ℕ → List ℕ → ℕ → List (Clause UnitOutcome)
unit_clauses ws program budget m n =
    clause 5 (ltb (length m) n) (unit_outcome (Err (Refused ShortBuffer)) m)
    ∷ clause 16 (bad_program n program) (unit_outcome (Err (Faulty (told_place (first_fault n program)))) m)
    ∷ clause 6 (not (run n ws program budget (take n m)).done) (unit_outcome (Err (Spent budget)) ((run n ws program budget (take n m)).marks ++ drop n m))
    ∷ []

-- Number 0: the commands run, the marks of the nodes, and past them the bytes as they were.
abbrev pub unit_done : List ℕ → List ℕ → ℕ → List ℕ → ℕ → UnitOutcome
unit_done ws program budget m n = unit_outcome (Ok (run n ws program budget (take n m)).count) ((run n ws program budget (take n m)).marks ++ drop n m)

-- The words that the set chooses are the links of the unit.
abbrev pub unit_table : ℕ → ℕ → List ℕ → ℕ → List ℕ → ℕ → List ℕ → List (Clause UnitOutcome)
unit_table o k ws set program budget m = net_clauses (λ r. unit_outcome (Err (Refused r)) m) o k ws set (unit_clauses (chosen set ws) program budget m (o + k))

-- A program run on the marker unit.
abbrev pub simulated : ℕ → ℕ → List ℕ → ℕ → List ℕ → ℕ → List ℕ → UnitOutcome
simulated o k ws set program budget m = call (unit_table o k ws set program budget m) (unit_done (chosen set ws) program budget m (o + k))

-- The paper's number and value for each answer.
abbrev pub simulated_reply : Simulated → Reply
simulated_reply (Ok count) = reply 0 count 0
simulated_reply (Err (Spent count)) = reply 6 count 0
simulated_reply (Err (Faulty place)) = reply 16 place 0
simulated_reply (Err (Refused r)) = refusal_reply r
