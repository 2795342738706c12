-- The number table of the reason check.
use Rattle.std.specs.Prelude.{ℕ, ◌+◌, Bool, List, [], ◌∷◌, Err, Ok, false, true, Result}
use Rattle.theory.specs.Words.{sign_at}
use Rattle.theory.specs.Checks.{passes}
use Rattle.theory.specs.Origins.{chosen}
use Rattle.net.specs.Clauses.{Clause, clause, call}
use Rattle.net.specs.Table.{net_clauses, bad_statement, Reply, reply, refusal_reply}
use Rattle.net.specs.declared.Refusal.{Refusal}
use Rattle.net.specs.declared.Refusal.TheVariants.{BadQuestion}

-- What the check answers: whether the list is a path of the net that shows the statement, or a refusal.
abbrev pub Verdict : Type 0
Verdict = Result Bool Refusal

-- Clause 4 on n nodes.
abbrev pub check_clauses : ℕ → ℕ → ℕ → ℕ → ℕ → List (Clause Verdict)
check_clauses o x y sign n = clause 4 (bad_statement o n x y sign) (Err BadQuestion) ∷ []

-- Number 0: yes or no to the list.
abbrev pub check_done : ℕ → ℕ → List ℕ → ℕ → ℕ → ℕ → List ℕ → Verdict
check_done o k ws x y sign l = Ok (passes o k ws x y (sign_at sign) l)

abbrev pub check_table : ℕ → ℕ → List ℕ → ℕ → ℕ → ℕ → ℕ → List (Clause Verdict)
check_table o k ws set x y sign = net_clauses Err o k ws set (check_clauses o x y sign (o + k))

-- Whether the list is a path of words that the set of origins chooses, and shows x → y (sign 0) or x ↛ y (sign 1).
abbrev pub verdict : ℕ → ℕ → List ℕ → ℕ → ℕ → ℕ → ℕ → List ℕ → Verdict
verdict o k ws set x y sign l = call (check_table o k ws set x y sign) (check_done o k (chosen set ws) x y sign l)

-- The paper's number for each answer; that yes is the value 1 and no 0 is this project's.
abbrev pub verdict_reply : Verdict → Reply
verdict_reply (Ok true) = reply 0 1 0
verdict_reply (Ok false) = reply 0 0 0
verdict_reply (Err r) = refusal_reply r
