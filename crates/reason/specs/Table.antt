-- The number table of the reason for x → y (sign 0) or x ↛ y (sign 1).
use Rattle.reason.specs.declared.ReasonError.{ReasonError}
use Rattle.reason.specs.declared.ReasonError.TheVariants.{Refused, Short, Unsupported}
use Rattle.std.specs.Prelude.{ℕ, ◌+◌, List, [], ◌∷◌, ◌++◌, eqb, ltb, length, get_or, drop, Err, Ok, Result}
use Rattle.theory.specs.Words.{sign_at}
use Rattle.theory.specs.Reasons.{never}
use Rattle.theory.specs.Searches.{distances, reason_states, reason_list}
use Rattle.theory.specs.Origins.{chosen}
use Rattle.net.specs.Clauses.{Clause, clause, call}
use Rattle.net.specs.Table.{net_clauses, bad_statement, Reply, reply, refusal_reply}
use Rattle.net.specs.declared.Refusal.TheVariants.{BadQuestion, ShortBuffer}

-- What a reason answers: the places written, or why there is none.
abbrev pub Reasoned : Type 0
Reasoned = Result ℕ ReasonError

-- The outcome of a reason: its answer, the scratch and the list.
pub record ReasonOutcome : Type 0 where
  pub answer : Reasoned
  pub scratch : List ℕ
  pub list : List ℕ

abbrev pub reason_outcome : Reasoned → List ℕ → List ℕ → ReasonOutcome
reason_outcome r d l = record { answer = r; scratch = d; list = l }

-- The scratch with the 2n distances in front, past them the places as they were.
abbrev pub filled : List ℕ → ℕ → ℕ → List ℕ → ℕ → List ℕ
filled ws y sign d n = distances n (sign_at sign) ws y ++ drop (n + n) d

-- The reason as it is written.
abbrev pub reason_of : List ℕ → ℕ → ℕ → ℕ → ℕ → List ℕ
reason_of ws x y sign n = reason_list n x (reason_states n (sign_at sign) ws x y)

-- Clauses 7 and 8 once the distances are found and stand in the scratch, which is left as `past`; `all` is the reason.
abbrev pub found_clauses : ℕ → List ℕ → List ℕ → List ℕ → List ℕ → List (Clause ReasonOutcome)
found_clauses x found all past l =
    clause 7 (eqb (get_or found x never) never) (reason_outcome (Err Unsupported) past l)
    ∷ clause 8 (ltb (length l) (length all)) (reason_outcome (Err (Short (length all))) past l)
    ∷ []

-- Number 0: the reason in front of the list, past it the places as they were.
abbrev pub found_done : List ℕ → List ℕ → List ℕ → ReasonOutcome
found_done all past l = reason_outcome (Ok (length all)) past (all ++ drop (length all) l)

-- Clauses 4, 5, 7 and 8 on n nodes.
abbrev pub reason_clauses : ℕ → List ℕ → ℕ → ℕ → ℕ → List ℕ → List ℕ → ℕ → List (Clause ReasonOutcome)
reason_clauses o ws x y sign d l n =
    clause 4 (bad_statement o n x y sign) (reason_outcome (Err (Refused BadQuestion)) d l)
    ∷ clause 5 (ltb (length d) (n + n)) (reason_outcome (Err (Refused ShortBuffer)) d l)
    ∷ found_clauses x (distances n (sign_at sign) ws y) (reason_of ws x y sign n) (filled ws y sign d n) l

abbrev pub reason_done : List ℕ → ℕ → ℕ → ℕ → List ℕ → List ℕ → ℕ → ReasonOutcome
reason_done ws x y sign d l n = found_done (reason_of ws x y sign n) (filled ws y sign d n) l

-- The whole table: these clauses over the chosen words, behind those of the net.
abbrev pub reason_table : ℕ → ℕ → List ℕ → ℕ → ℕ → ℕ → ℕ → List ℕ → List ℕ → List (Clause ReasonOutcome)
reason_table o k ws set x y sign d l =
    net_clauses (λ r. reason_outcome (Err (Refused r)) d l) o k ws set (reason_clauses o (chosen set ws) x y sign d l (o + k))

-- The reason for x → y (sign 0) or x ↛ y (sign 1) by the words that the set of origins chooses.
abbrev pub reasoned : ℕ → ℕ → List ℕ → ℕ → ℕ → ℕ → ℕ → List ℕ → List ℕ → ReasonOutcome
reasoned o k ws set x y sign d l = call (reason_table o k ws set x y sign d l) (reason_done (chosen set ws) x y sign d l (o + k))

-- The paper's number and values for each answer.
abbrev pub reasoned_reply : Reasoned → Reply
reasoned_reply (Ok places) = reply 0 places 0
reasoned_reply (Err Unsupported) = reply 7 0 0
reasoned_reply (Err (Short needed)) = reply 8 needed 0
reasoned_reply (Err (Refused r)) = refusal_reply r
