-- The number table of the check of a proof.
use Rattle.proof_check.specs.declared.JudgeError.{JudgeError}
use Rattle.proof_check.specs.declared.JudgeError.TheVariants.{Faulty, Refused}
use Rattle.std.specs.Prelude.{ℕ, ◌+◌, Bool, true, false, not, List, [], ◌∷◌, Err, Ok, Result}
use Rattle.theory.specs.Words.{sign_at, word}
use Rattle.theory.specs.Origins.{chosen}
use Rattle.net.specs.Clauses.{Clause, clause, call}
use Rattle.net.specs.Table.{net_clauses, bad_statement, Reply, reply, refusal_reply}
use Rattle.net.specs.declared.Refusal.TheVariants.{BadQuestion}
use Rattle.proof_form.specs.Checker.{check_proof}
use Rattle.proof_form.specs.declared.Found.{Found}
use Rattle.proof_form.specs.declared.Found.TheVariants.{Right, At, Nowhere}

-- What the check answers: that the list proves the statement, or why it is not accepted.
abbrev pub Judged : Type 0
Judged = Result Unit JudgeError

-- The number that stands where no one step is at fault: no list has so many steps.
abbrev pub no_step : ℕ
no_step = 4294967295

-- What was found in the list: that it is a proof, and otherwise the step at fault, or no one step.
abbrev pub is_right : Found → Bool
is_right Right = true
is_right (At i) = false
is_right Nowhere = false

abbrev pub fault_step : Found → ℕ
fault_step Right = no_step
fault_step (At i) = i
fault_step Nowhere = no_step

-- Clause 12 by what was found.
abbrev pub fault_clause : Found → Clause Judged
fault_clause z = clause 12 (not (is_right z)) (Err (Faulty (fault_step z)))

-- Clauses 4 and 12 on n nodes.
abbrev pub judged_clauses : ℕ → List ℕ → ℕ → ℕ → ℕ → List ℕ → ℕ → List (Clause Judged)
judged_clauses o ws x y sign l n =
    clause 4 (bad_statement o n x y sign) (Err (Refused BadQuestion))
    ∷ fault_clause (check_proof o n ws (word x y (sign_at sign)) l)
    ∷ []

-- Number 0: the list proves the statement.
abbrev pub judged_done : Judged
judged_done = Ok tt

-- The whole table: these clauses over the chosen words, behind those of the net.
abbrev pub judged_table : ℕ → ℕ → List ℕ → ℕ → ℕ → ℕ → ℕ → List ℕ → List (Clause Judged)
judged_table o k ws set x y sign l = net_clauses (λ r. Err (Refused r)) o k ws set (judged_clauses o (chosen set ws) x y sign l (o + k))

-- Whether the list proves x → y (sign 0) or x ↛ y (sign 1) from the words that the set of origins chooses.
abbrev pub judged : ℕ → ℕ → List ℕ → ℕ → ℕ → ℕ → ℕ → List ℕ → Judged
judged o k ws set x y sign l = call (judged_table o k ws set x y sign l) judged_done

-- The paper's number and value for each answer.
abbrev pub judged_reply : Judged → Reply
judged_reply (Ok tt) = reply 0 0 0
judged_reply (Err (Faulty step)) = reply 12 step 0
judged_reply (Err (Refused r)) = refusal_reply r
