-- The number table of the scan.
use Rattle.scan.specs.declared.ScanError.{ScanError}
use Rattle.scan.specs.declared.ScanError.TheVariants.{Refused, Spent}
use Rattle.std.specs.Prelude.{ℕ, ◌+◌, Bool, not, List, [], ◌∷◌, ◌++◌, ltb, leb, length, drop, Err, Ok, Result}
use Rattle.theory.specs.Marks.{commands, scan_start}
use Rattle.theory.specs.Scans.{after, scan}
use Rattle.theory.specs.Origins.{chosen}
use Rattle.net.specs.Clauses.{Clause, clause, call}
use Rattle.net.specs.Table.{net_clauses, Reply, reply, refusal_reply}
use Rattle.net.specs.declared.Refusal.TheVariants.{BadQuestion, ShortBuffer}

-- What a scan answers: the count of its rounds, or why there is none.
abbrev pub Scanned : Type 0
Scanned = Result ℕ ScanError

-- The outcome of a scan: its answer and the marks.
pub record ScanOutcome : Type 0 where
  pub answer : Scanned
  pub marks : List ℕ

abbrev pub scan_outcome : Scanned → List ℕ → ScanOutcome
scan_outcome r m = record { answer = r; marks = m }

-- The start is no node of n.
abbrev pub bad_start : ℕ → ℕ → Bool
bad_start n x = leb n x

-- Clauses 4, 5 and 6 on n nodes and plain words.
abbrev pub scan_clauses : List ℕ → ℕ → ℕ → List ℕ → ℕ → List (Clause ScanOutcome)
scan_clauses ws x budget m n =
    clause 4 (bad_start n x) (scan_outcome (Err (Refused BadQuestion)) m)
    ∷ clause 5 (ltb (length m) n) (scan_outcome (Err (Refused ShortBuffer)) m)
    ∷ clause 6 (not (scan n ws x budget).done) (scan_outcome (Err (Spent budget)) (after commands ws budget (scan_start n x) ++ drop n m))
    ∷ []

-- Number 0: the count, the marks of the nodes, and past them the bytes as they were.
abbrev pub scan_done : List ℕ → ℕ → ℕ → List ℕ → ℕ → ScanOutcome
scan_done ws x budget m n = scan_outcome (Ok (scan n ws x budget).count) ((scan n ws x budget).marks ++ drop n m)

-- The words that the set chooses are scanned.
abbrev pub scan_table : ℕ → ℕ → List ℕ → ℕ → ℕ → ℕ → List ℕ → List (Clause ScanOutcome)
scan_table o k ws set x budget m = net_clauses (λ r. scan_outcome (Err (Refused r)) m) o k ws set (scan_clauses (chosen set ws) x budget m (o + k))

-- The scan from x.
abbrev pub scanned : ℕ → ℕ → List ℕ → ℕ → ℕ → ℕ → List ℕ → ScanOutcome
scanned o k ws set x budget m = call (scan_table o k ws set x budget m) (scan_done (chosen set ws) x budget m (o + k))

-- The paper's number and values for each answer.
abbrev pub scan_reply : Scanned → Reply
scan_reply (Ok count) = reply 0 count 0
scan_reply (Err (Spent count)) = reply 6 count 0
scan_reply (Err (Refused r)) = refusal_reply r
