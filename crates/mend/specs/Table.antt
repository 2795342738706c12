-- The number table of mending.
use Rattle.mend.specs.declared.MendError.{MendError}
use Rattle.mend.specs.declared.MendError.TheVariants.{Refused, Short}
use Rattle.std.specs.Prelude.{ℕ, ◌+◌, ◌/◌, Bool, ◌||◌, List, [], ◌∷◌, ltb, length, Err, Ok, Result}
use Rattle.theory_laws.specs.Over.{over}
use Rattle.theory.specs.Mending.{DroppedWord, threes, kept_from, dropped_from}
use Rattle.net.specs.Clauses.{Clause, clause, call}
use Rattle.net.specs.Table.{plain_clauses, Reply, reply, refusal_reply}
use Rattle.net.specs.declared.Refusal.TheVariants.{ShortBuffer}
use Rattle.scan_start.specs.Starts.{cleared}

-- What mending answers: how many words it kept and how many it dropped, or why there is no mended net.
abbrev pub MendedNet : Type 0
MendedNet = Result (ℕ × ℕ) MendError

-- The outcome of mending: its answer, the two lists and the marks.
pub record MendingOutcome : Type 0 where
  pub answer : MendedNet
  pub kept : List ℕ
  pub dropped : List ℕ
  pub marks : List ℕ

abbrev pub mending_outcome : MendedNet → List ℕ → List ℕ → List ℕ → MendingOutcome
mending_outcome r kept dropped m = record { answer = r; kept = kept; dropped = dropped; marks = m }

-- One of the lists has room for fewer entries than there are words: one place an entry in the list of kept words, three in that of the dropped.
abbrev pub too_short : List ℕ → List ℕ → List ℕ → Bool
too_short ws kept dropped = ltb (length kept) (length ws) || ltb (length dropped / 3) (length ws)

-- Clauses 5 and 8 on n nodes.
abbrev pub mending_clauses : List ℕ → List ℕ → List ℕ → List ℕ → ℕ → List (Clause MendingOutcome)
mending_clauses ws kept dropped m n =
    clause 5 (ltb (length m) n) (mending_outcome (Err (Refused ShortBuffer)) kept dropped m)
    ∷ clause 8 (too_short ws kept dropped) (mending_outcome (Err (Short (length ws))) kept dropped (cleared n m))
    ∷ []

-- Number 0, where `all` are the words kept and ds those dropped: both counts, each list in front of what was there, and the marks of the nodes zero.
abbrev pub mending_done : List ℕ → List DroppedWord → List ℕ → List ℕ → List ℕ → ℕ → MendingOutcome
mending_done all ds kept dropped m n = mending_outcome (Ok (length all, length ds)) (over all kept) (over (threes ds) dropped) (cleared n m)

abbrev pub mending_table : ℕ → ℕ → List ℕ → List ℕ → List ℕ → List ℕ → List (Clause MendingOutcome)
mending_table o k ws kept dropped m =
    plain_clauses (λ r. mending_outcome (Err (Refused r)) kept dropped m) o k ws (mending_clauses ws kept dropped m (o + k))

-- Mending the list ws.
abbrev pub mended_by : ℕ → ℕ → List ℕ → List ℕ → List ℕ → List ℕ → MendingOutcome
mended_by o k ws kept dropped m =
    call (mending_table o k ws kept dropped m) (mending_done (kept_from o k [] ws) (dropped_from o k [] ws) kept dropped m (o + k))

-- The paper's number and values for each answer.
abbrev pub mended_reply : MendedNet → Reply
mended_reply (Ok (kept, dropped)) = reply 0 kept dropped
mended_reply (Err (Short needed)) = reply 8 needed 0
mended_reply (Err (Refused r)) = refusal_reply r
