-- The number table of the proof of x → y (sign 0) or x ↛ y (sign 1).
use Rattle.reason.specs.declared.ReasonError.{ReasonError}
use Rattle.reason.specs.declared.ReasonError.TheVariants as reason
use Rattle.proof.specs.declared.ProofError.{ProofError}
use Rattle.proof.specs.declared.ProofError.TheVariants.{Refused, Short, TooDeep, Unsupported}
use Rattle.std.specs.Prelude.{ℕ, ◌+◌, List, [], ◌∷◌, eqb, ltb, length, get_or, Err, Ok, Result}
use Rattle.theory_laws.specs.Over.{over}
use Rattle.theory.specs.Words.{sign_at}
use Rattle.theory.specs.Reasons.{never}
use Rattle.theory.specs.Searches.{distances}
use Rattle.theory.specs.Origins.{chosen}
use Rattle.theory.specs.ProofFiles.{depth_limit}
use Rattle.net.specs.Clauses.{Clause, clause, call}
use Rattle.net.specs.Table.{net_clauses, bad_statement, Reply, reply, refusal_reply}
use Rattle.net.specs.declared.Refusal.TheVariants.{BadQuestion, ShortBuffer}
use Rattle.reason.specs.Table.{filled, reason_of}
use Rattle.proof_form.specs.Ours.{our_depth}
use Rattle.proof_form.specs.FromReason.{from_reason}

-- What the writer answers: the numbers written, or why there is no proof.
abbrev pub Proved : Type 0
Proved = Result ℕ ProofError

-- Why there is no proof where there is no reason: one that finds no room in its place is of a proof that is too deep.
abbrev pub without_reason : ReasonError → ProofError
without_reason reason.Unsupported = Unsupported
without_reason (reason.Short size) = TooDeep
without_reason (reason.Refused r) = Refused r

-- The outcome of the writer: its answer, the scratch and the list.
pub record ProofOutcome : Type 0 where
  pub answer : Proved
  pub scratch : List ℕ
  pub list : List ℕ

abbrev pub proof_outcome : Proved → List ℕ → List ℕ → ProofOutcome
proof_outcome r d l = record { answer = r; scratch = d; list = l }

-- How many links the reason has, and our proof, as it is built from the reason.
abbrev pub links_of : List ℕ → ℕ → ℕ → ℕ → ℕ → ℕ
links_of ws x y sign n = get_or (distances n (sign_at sign) ws y) x never

abbrev pub proof_of : ℕ → List ℕ → ℕ → ℕ → ℕ → ℕ → List ℕ
proof_of o ws x y sign n = from_reason o n ws x y (sign_at sign) (reason_of ws x y sign n) (links_of ws x y sign n)

-- Clauses 11 and 8 once the reason is found, where the scratch is left as `past`: our proof has too many sequents one above another; the list has
-- no room for `all`.
abbrev pub room_clauses : ℕ → List ℕ → List ℕ → List ℕ → List (Clause ProofOutcome)
room_clauses deep all past l =
    clause 11 (ltb depth_limit deep) (proof_outcome (Err TooDeep) past l)
    ∷ clause 8 (ltb (length l) (length all)) (proof_outcome (Err (Short (length all))) past l)
    ∷ []

-- Number 0: the proof in front of the list, past it the numbers as they were.
abbrev pub room_done : List ℕ → List ℕ → List ℕ → ProofOutcome
room_done all past l = proof_outcome (Ok (length all)) past (over all l)

-- Clauses 4, 5, 7, 11 and 8 on n nodes. From 7 on the scratch is left as the reason leaves it.
abbrev pub proof_clauses : ℕ → List ℕ → ℕ → ℕ → ℕ → List ℕ → List ℕ → ℕ → List (Clause ProofOutcome)
proof_clauses o ws x y sign d l n =
    clause 4 (bad_statement o n x y sign) (proof_outcome (Err (Refused BadQuestion)) d l)
    ∷ clause 5 (ltb (length d) (n + n)) (proof_outcome (Err (Refused ShortBuffer)) d l)
    ∷ clause 7 (eqb (links_of ws x y sign n) never) (proof_outcome (Err Unsupported) (filled ws y sign d n) l)
    ∷ room_clauses (our_depth o x (links_of ws x y sign n)) (proof_of o ws x y sign n) (filled ws y sign d n) l

abbrev pub proof_done : ℕ → List ℕ → ℕ → ℕ → ℕ → List ℕ → List ℕ → ℕ → ProofOutcome
proof_done o ws x y sign d l n = room_done (proof_of o ws x y sign n) (filled ws y sign d n) l

-- The whole table: these clauses over the chosen words, behind those of the net.
abbrev pub proof_table : ℕ → ℕ → List ℕ → ℕ → ℕ → ℕ → ℕ → List ℕ → List ℕ → List (Clause ProofOutcome)
proof_table o k ws set x y sign d l = net_clauses (λ r. proof_outcome (Err (Refused r)) d l) o k ws set (proof_clauses o (chosen set ws) x y sign d l (o + k))

-- The proof of x → y (sign 0) or x ↛ y (sign 1) by the words that the set of origins chooses.
abbrev pub proved : ℕ → ℕ → List ℕ → ℕ → ℕ → ℕ → ℕ → List ℕ → List ℕ → ProofOutcome
proved o k ws set x y sign d l = call (proof_table o k ws set x y sign d l) (proof_done o (chosen set ws) x y sign d l (o + k))

-- The paper's number and values for each answer.
abbrev pub proved_reply : Proved → Reply
proved_reply (Ok numbers) = reply 0 numbers 0
proved_reply (Err Unsupported) = reply 7 0 0
proved_reply (Err TooDeep) = reply 11 0 0
proved_reply (Err (Short needed)) = reply 8 needed 0
proved_reply (Err (Refused r)) = refusal_reply r
