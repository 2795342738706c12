-- The number table of the completion.
use Rattle.completion.specs.declared.CompletionError.{CompletionError}
use Rattle.completion.specs.declared.CompletionError.TheVariants as completed
use Rattle.std.specs.Prelude.{ℕ, ◌+◌, List, [], ◌∷◌, ◌++◌, ltb, length, drop, Err, Ok, Result}
use Rattle.theory.specs.Completion.{complete}
use Rattle.theory.specs.Origins.{chosen}
use Rattle.net.specs.Clauses.{Clause, clause, call}
use Rattle.net.specs.Table.{net_clauses, Reply, reply, refusal_reply}
use Rattle.net.specs.declared.Refusal.TheVariants.{ShortBuffer}
use Rattle.scan_start.specs.Starts.{cleared}

-- What a completion answers: how many words it wrote, or why it wrote none.
abbrev pub Completed : Type 0
Completed = Result ℕ CompletionError

-- The outcome of a completion: its answer, the marks and the list.
pub record CompletionOutcome : Type 0 where
  pub answer : Completed
  pub marks : List ℕ
  pub list : List ℕ

abbrev pub completion_outcome : Completed → List ℕ → List ℕ → CompletionOutcome
completion_outcome r m l = record { answer = r; marks = m; list = l }

-- Clauses 5 and 8 on n nodes whose supported words are `all`.
abbrev pub completion_clauses : List ℕ → List ℕ → List ℕ → ℕ → List (Clause CompletionOutcome)
completion_clauses all m l n =
    clause 5 (ltb (length m) n) (completion_outcome (Err (completed.Refused ShortBuffer)) m l)
    ∷ clause 8 (ltb (length l) (length all)) (completion_outcome (Err (completed.Short (length all))) (cleared n m) l)
    ∷ []

-- Number 0: how many words they are, the marks of the nodes zero, and the words in front of the list.
abbrev pub completion_done : List ℕ → List ℕ → List ℕ → ℕ → CompletionOutcome
completion_done all m l n = completion_outcome (Ok (length all)) (cleared n m) (all ++ drop (length all) l)

abbrev pub completion_table : ℕ → ℕ → List ℕ → ℕ → List ℕ → List ℕ → List (Clause CompletionOutcome)
completion_table o k ws set m l = net_clauses (λ r. completion_outcome (Err (completed.Refused r)) m l) o k ws set (completion_clauses (complete o k (chosen set ws)) m l (o + k))

-- The completion of the words that the set chooses.
abbrev pub completed_by : ℕ → ℕ → List ℕ → ℕ → List ℕ → List ℕ → CompletionOutcome
completed_by o k ws set m l = call (completion_table o k ws set m l) (completion_done (complete o k (chosen set ws)) m l (o + k))

-- The paper's number and value for each answer.
abbrev pub completed_reply : Completed → Reply
completed_reply (Ok size) = reply 0 size 0
completed_reply (Err (completed.Short needed)) = reply 8 needed 0
completed_reply (Err (completed.Refused r)) = refusal_reply r
