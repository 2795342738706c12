-- The number table of the compaction of a list.
use Rattle.std.specs.Prelude.{ℕ, ◌+◌, ◌-◌, List, [], ◌∷◌, ◌++◌, ltb, length, replicate, Err, Ok, Result}
use Rattle.theory.specs.Compaction.{compacted}
use Rattle.net.specs.Clauses.{Clause, clause, call}
use Rattle.net.specs.Table.{plain_clauses, Reply, reply, refusal_reply}
use Rattle.net.specs.declared.Refusal.{Refusal}
use Rattle.net.specs.declared.Refusal.TheVariants.{ShortBuffer}
use Rattle.scan_start.specs.Starts.{cleared}

-- What a compaction answers: how many words are left, or a refusal.
abbrev pub CompactedList : Type 0
CompactedList = Result ℕ Refusal

-- The outcome of a compaction: its answer, the list and the marks.
pub record CompactionOutcome : Type 0 where
  pub answer : CompactedList
  pub list : List ℕ
  pub marks : List ℕ

abbrev pub compaction_outcome : CompactedList → List ℕ → List ℕ → CompactionOutcome
compaction_outcome r l m = record { answer = r; list = l; marks = m }

-- The words `kept` in front of the places of ws, and zero in those freed.
abbrev pub freed : List ℕ → List ℕ → List ℕ
freed kept ws = kept ++ replicate (length ws - length kept) 0

-- Clause 5 on n nodes.
abbrev pub compaction_clauses : List ℕ → List ℕ → ℕ → List (Clause CompactionOutcome)
compaction_clauses ws m n = clause 5 (ltb (length m) n) (compaction_outcome (Err ShortBuffer) ws m) ∷ []

-- Number 0, where ws is compacted to `kept`: its length, the list, and the marks of the nodes zero.
abbrev pub compaction_done : List ℕ → List ℕ → List ℕ → ℕ → CompactionOutcome
compaction_done kept ws m n = compaction_outcome (Ok (length kept)) (freed kept ws) (cleared n m)

abbrev pub compaction_table : ℕ → ℕ → List ℕ → List ℕ → List (Clause CompactionOutcome)
compaction_table o k ws m = plain_clauses (λ r. compaction_outcome (Err r) ws m) o k ws (compaction_clauses ws m (o + k))

-- The compaction of the list ws.
abbrev pub compacted_by : ℕ → ℕ → List ℕ → List ℕ → CompactionOutcome
compacted_by o k ws m = call (compaction_table o k ws m) (compaction_done (compacted o k ws) ws m (o + k))

-- The paper's number and value for each answer.
abbrev pub compacted_reply : CompactedList → Reply
compacted_reply (Ok size) = reply 0 size 0
compacted_reply (Err r) = refusal_reply r
