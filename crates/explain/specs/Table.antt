-- The number table of an explanation: the reason's, and where there is a reason its derivation, four places a line.
use Rattle.explain.specs.declared.ExplainError.{ExplainError}
use Rattle.explain.specs.declared.ExplainError.TheVariants.{Refused, ShortLines, ShortReason, Unsupported}
use Rattle.std.specs.Prelude.{ℕ, ◌+◌, ◌*◌, Bool, cond, ◌||◌, List, [], ◌∷◌, eqb, ltb, length, get_or, Err, Ok, Result}
use Rattle.theory_laws.specs.Over.{over}
use Rattle.theory.specs.Words.{sign_at}
use Rattle.theory.specs.Reasons.{never}
use Rattle.theory.specs.Searches.{distances}
use Rattle.theory.specs.Origins.{chosen}
use Rattle.net.specs.Clauses.{Clause, clause, call}
use Rattle.net.specs.Table.{net_clauses, bad_statement, Reply, reply, refusal_reply}
use Rattle.net.specs.declared.Refusal.TheVariants.{BadQuestion, ShortBuffer}
use Rattle.reason.specs.Table.{filled, reason_of}
use Rattle.derivation_lines.specs.Lines.{Line}
use Rattle.derivation_lines.specs.Flat.{flat, derive_list}

-- What an explanation answers: the places written of lines and of the reason, or why there is none.
abbrev pub Explained : Type 0
Explained = Result (ℕ × ℕ) ExplainError

-- What a call leaves: its answer, the scratch, the list of the reason and the list of lines.
pub record ExplainOutcome : Type 0 where
  pub answer : Explained
  pub scratch : List ℕ
  pub list : List ℕ
  pub lines : List ℕ

abbrev pub explain_outcome : Explained → List ℕ → List ℕ → List ℕ → ExplainOutcome
explain_outcome r d m l = record { answer = r; scratch = d; list = m; lines = l }

-- The lines of the reason for x → y (sign 0) or x ↛ y (sign 1) on n nodes. Their links count in the whole list ws.
abbrev pub explaining : ℕ → List ℕ → ℕ → ℕ → ℕ → ℕ → ℕ → List Line
explaining o ws set x y sign n = derive_list o set ws (reason_of (chosen set ws) x y sign n)

-- The list of the reason, or that of lines, is too short: `all` is the reason, ls are its lines.
abbrev pub no_room : List ℕ → List Line → List ℕ → List ℕ → Bool
no_room all ls m l = ltb (length m) (length all) || ltb (length l) (4 * length ls)

-- What is left then: where only the lines have no room, the reason is written.
abbrev pub roomless : List ℕ → List Line → List ℕ → List ℕ → List ℕ → ExplainOutcome
roomless all ls past m l =
    cond (ltb (length m) (length all)) (explain_outcome (Err (ShortReason (length all))) past m l)
    (explain_outcome (Err (ShortLines (4 * length ls))) past (over all m) l)

-- Clauses 4, 5 and 7, which are the reason's over the chosen words cs, and 8.
abbrev pub support_clauses : ℕ → List ℕ → ℕ → ℕ → ℕ → List ℕ → List ℕ → List ℕ → ℕ → List (Clause ExplainOutcome) → List (Clause ExplainOutcome)
support_clauses o cs x y sign d m l n rest =
    clause 4 (bad_statement o n x y sign) (explain_outcome (Err (Refused BadQuestion)) d m l)
    ∷ clause 5 (ltb (length d) (n + n)) (explain_outcome (Err (Refused ShortBuffer)) d m l)
    ∷ clause 7 (eqb (get_or (distances n (sign_at sign) cs y) x never) never) (explain_outcome (Err Unsupported) (filled cs y sign d n) m l)
    ∷ rest

abbrev pub explain_clauses : ℕ → List ℕ → List Line → ℕ → ℕ → ℕ → List ℕ → List ℕ → List ℕ → ℕ → List (Clause ExplainOutcome)
explain_clauses o cs ls x y sign d m l n =
    support_clauses o cs x y sign d m l n
    (clause 8 (no_room (reason_of cs x y sign n) ls m l) (roomless (reason_of cs x y sign n) ls (filled cs y sign d n) m l) ∷ [])

-- Number 0: the reason and its lines in front of the two lists.
abbrev pub explain_done : List ℕ → List Line → ℕ → ℕ → ℕ → List ℕ → List ℕ → List ℕ → ℕ → ExplainOutcome
explain_done cs ls x y sign d m l n =
    explain_outcome (Ok (4 * length ls, length (reason_of cs x y sign n))) (filled cs y sign d n) (over (reason_of cs x y sign n) m) (over (flat ls) l)

-- The whole table: these clauses over the chosen words, behind those of the net.
abbrev pub explain_table : ℕ → ℕ → List ℕ → ℕ → ℕ → ℕ → ℕ → List ℕ → List ℕ → List ℕ → List (Clause ExplainOutcome)
explain_table o k ws set x y sign d m l =
    net_clauses (λ r. explain_outcome (Err (Refused r)) d m l) o k ws set
    (explain_clauses o (chosen set ws) (explaining o ws set x y sign (o + k)) x y sign d m l (o + k))

-- The reason for x → y (sign 0) or x ↛ y (sign 1) by the words that the set of origins chooses, and its lines.
abbrev pub explained : ℕ → ℕ → List ℕ → ℕ → ℕ → ℕ → ℕ → List ℕ → List ℕ → List ℕ → ExplainOutcome
explained o k ws set x y sign d m l =
    call (explain_table o k ws set x y sign d m l) (explain_done (chosen set ws) (explaining o ws set x y sign (o + k)) x y sign d m l (o + k))

-- The paper's number and values for each answer. At 0 they are the places of lines and of the reason; at 8 the second says which list is too short,
-- 0 that of the reason, 1 that of lines.
abbrev pub explained_reply : Explained → Reply
explained_reply (Ok (lines, places)) = reply 0 lines places
explained_reply (Err Unsupported) = reply 7 0 0
explained_reply (Err (ShortReason needed)) = reply 8 needed 0
explained_reply (Err (ShortLines needed)) = reply 8 needed 1
explained_reply (Err (Refused r)) = refusal_reply r
