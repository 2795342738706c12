-- The bench readings marked P, as one table: what the statements give, and what the paper says, each written as a list of numbers.
use Rattle.std.specs.Prelude.{ℕ, ◌/◌, ◌%◌, Bool, true, ◌&&◌, List, [], ◌∷◌, ◌++◌, map, length, replicate}
use Rattle.theory.specs.NetM.{M}
use Rattle.theory.specs.Scans.{same}
use Rattle.theory.specs.Downscan.{downscan}
use Rattle.net.specs.Table.{Reply}
use Rattle.scan.specs.Table.{ScanOutcome, scanned, scan_reply}
use Rattle.question.specs.Table.{QuestionOutcome, questioned, asked_reply}
use Rattle.clash.specs.Table.{ClashOutcome, clashed_by, clashed_reply}
use Rattle.completion.specs.Table.{CompletionOutcome, completed_by, completed_reply}
use Rattle.reason.specs.Table.{ReasonOutcome, reasoned, reasoned_reply}

-- One reading.
pub record Reading : Type 0 where
  pub gives : List ℕ
  pub paper : List ℕ

abbrev pub reading : List ℕ → List ℕ → Reading
reading g p = record { gives = g; paper = p }

-- ── an outcome as numbers: number and two values, then each buffer, its length in front ──

abbrev pub values : Reply → List ℕ → List ℕ
values r rest = r.number ∷ r.first ∷ r.second ∷ rest

abbrev pub buffer : List ℕ → List ℕ → List ℕ
buffer l rest = length l ∷ (l ++ rest)

abbrev pub scans : ScanOutcome → List ℕ
scans r = values (scan_reply r.answer) (buffer r.marks [])

abbrev pub answered : QuestionOutcome → List ℕ
answered r = values (asked_reply r.answer) (buffer r.marks [])

abbrev pub clashes : ClashOutcome → List ℕ
clashes r = values (clashed_reply r.answer) (buffer r.marks [])

abbrev pub completes : CompletionOutcome → List ℕ
completes r = values (completed_reply r.answer) (buffer r.marks (buffer r.list []))

abbrev pub reasons : ReasonOutcome → List ℕ
reasons r = values (reasoned_reply r.answer) (buffer r.scratch (buffer r.list []))

-- At which nodes F stands.
abbrev pub noes : List ℕ → List ℕ
noes m = map (λ (b : ℕ). b / 2 % 2) m

-- ── the readings ──

-- Buffers hold 255 in every place beforehand, and one place more than is needed where the paper does not say how many: that place is kept.
abbrev pub lent : ℕ → List ℕ
lent n = replicate n 255

-- The readings of scans and of a question, in the order of the paper, as [8] takes them.
abbrev pub scan_readings : List Reading
scan_readings =
    reading (scans (scanned 2 4 M 15 0 5 (lent 7))) (0 ∷ 5 ∷ 0 ∷ 7 ∷ 5 ∷ 2 ∷ 4 ∷ 2 ∷ 2 ∷ 2 ∷ 255 ∷ [])
    ∷ reading (scans (scanned 2 4 M 15 0 4 (lent 7))) (6 ∷ 4 ∷ 0 ∷ 7 ∷ 5 ∷ 2 ∷ 4 ∷ 2 ∷ 2 ∷ 2 ∷ 255 ∷ [])
    ∷ reading (scans (scanned 2 4 M 15 0 1 (lent 7))) (6 ∷ 1 ∷ 0 ∷ 7 ∷ 5 ∷ 0 ∷ 4 ∷ 2 ∷ 0 ∷ 0 ∷ 255 ∷ [])
    ∷ reading (scans (scanned 2 4 M 15 4 17 (lent 7))) (0 ∷ 3 ∷ 0 ∷ 7 ∷ 2 ∷ 1 ∷ 2 ∷ 4 ∷ 5 ∷ 1 ∷ 255 ∷ [])
    ∷ reading (scans (scanned 1 2 (2 ∷ 3 ∷ []) 15 0 8 (lent 4))) (0 ∷ 2 ∷ 0 ∷ 4 ∷ 7 ∷ 6 ∷ 0 ∷ 255 ∷ [])
    ∷ reading (answered (questioned 1 2 (2 ∷ 3 ∷ []) 15 0 2 (lent 4))) (0 ∷ 0 ∷ 2 ∷ 4 ∷ 7 ∷ 6 ∷ 0 ∷ 255 ∷ [])
    ∷ reading (scans (scanned 0 3 (3 ∷ 2053 ∷ []) 15 0 8 (lent 4))) (0 ∷ 2 ∷ 0 ∷ 4 ∷ 5 ∷ 2 ∷ 0 ∷ 255 ∷ [])
    ∷ reading (scans (scanned 0 1 (1 ∷ []) 15 0 2 (lent 2))) (0 ∷ 2 ∷ 0 ∷ 2 ∷ 7 ∷ 255 ∷ [])
    ∷ reading (scans (scanned 0 1 [] 15 0 2 (lent 2))) (0 ∷ 1 ∷ 0 ∷ 2 ∷ 5 ∷ 255 ∷ [])
    ∷ []

-- Net M completed.
abbrev pub completed_m : List ℕ
completed_m =
    4 ∷ 7 ∷ 9 ∷ 11 ∷ 2053 ∷ 2054 ∷ 2056 ∷ 2058 ∷ 4100 ∷ 4103 ∷ 4105 ∷ 4107 ∷ 6149 ∷ 6150 ∷ 8197 ∷ 8198 ∷ 8200 ∷ 10245 ∷ 10246 ∷ 10248 ∷ 10250 ∷ []

-- The scratch of the reason for 0 ↛ 5 in net M.
abbrev pub scratch_m : List ℕ
scratch_m = 4 ∷ 65535 ∷ 3 ∷ 65535 ∷ 65535 ∷ 65535 ∷ 65535 ∷ 65535 ∷ 65535 ∷ 2 ∷ 1 ∷ 0 ∷ []

-- The other readings, in the order of the paper.
abbrev pub other_readings : List Reading
other_readings =
    reading (noes (downscan 6 M 4 17).marks) (0 ∷ 0 ∷ 0 ∷ 0 ∷ 0 ∷ 0 ∷ [])
    ∷ reading (reasons (reasoned 2 4 M 15 0 5 1 (lent 13) (lent 8))) (0 ∷ 7 ∷ 0 ∷ 13 ∷ (scratch_m ++ (255 ∷ 8 ∷ 2 ∷ 3 ∷ 0 ∷ 2 ∷ 3 ∷ 4 ∷ 5 ∷ 255 ∷ [])))
    ∷ reading (reasons (reasoned 2 4 M 15 0 5 1 (lent 13) (lent 6))) (8 ∷ 7 ∷ 0 ∷ 13 ∷ (scratch_m ++ (255 ∷ 6 ∷ 255 ∷ 255 ∷ 255 ∷ 255 ∷ 255 ∷ 255 ∷ [])))
    ∷ reading (completes (completed_by 2 4 M 15 (lent 7) (lent 22))) (0 ∷ 21 ∷ 0 ∷ 7 ∷ 0 ∷ 0 ∷ 0 ∷ 0 ∷ 0 ∷ 0 ∷ 255 ∷ 22 ∷ (completed_m ++ (255 ∷ [])))
    ∷ reading (clashes (clashed_by 1 2 (2 ∷ 3 ∷ []) 15 (lent 4))) (0 ∷ 0 ∷ 1 ∷ 4 ∷ 0 ∷ 0 ∷ 0 ∷ 255 ∷ [])
    ∷ reading (completes (completed_by 0 1 (1 ∷ []) 15 (lent 2) (lent 3))) (0 ∷ 2 ∷ 0 ∷ 2 ∷ 0 ∷ 255 ∷ 3 ∷ 0 ∷ 1 ∷ 255 ∷ [])
    ∷ reading (completes (completed_by 0 1 [] 15 (lent 2) (lent 2))) (0 ∷ 1 ∷ 0 ∷ 2 ∷ 0 ∷ 255 ∷ 2 ∷ 0 ∷ 255 ∷ [])
    ∷ []

-- All of them.
abbrev pub readings : List Reading
readings = other_readings ++ scan_readings

-- Every entry agrees with the paper.
unfoldable pub all_agree : List Reading → Bool
all_agree [] = true
all_agree (e ∷ es) = same e.gives e.paper && all_agree es
