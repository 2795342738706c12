-- An engine: what it answers and leaves for each call. The promises are stated of any engine; ours is the one that the operations' statements describe.
use Rattle.scan.specs.declared.ScanError.TheVariants as answer
use Rattle.std.specs.Prelude.{ℕ, ◌+◌, ◌≤◌, ◌≡◌, true, cond, List, [], ◌∷◌, ◌++◌, ltb, length, drop, Err, Ok}
use Rattle.theory.specs.Scans.{Scan}
use Rattle.theory.specs.Origins.{set_limit, among, chosen, NetFrom}
use Rattle.net.specs.Clauses.{clause, call}
use Rattle.net.specs.Table.{check_net, net_clauses, Checked}
use Rattle.net.specs.declared.Refusal.TheVariants.{BadQuestion, ShortBuffer}
use Rattle.check_word.specs.Table.{check_word, WordChecked}
use Rattle.scan.specs.Table.{ScanOutcome, scan_outcome, bad_start, scanned}
use Rattle.question.specs.Table.{QuestionOutcome, questioned}
use Rattle.questions.specs.Table.{QuestionsOutcome, questioned_all}
use Rattle.clash.specs.Table.{ClashOutcome, clashed_by}
use Rattle.completion.specs.Table.{CompletionOutcome, completed_by}
use Rattle.compact.specs.Table.{CompactionOutcome, compacted_by}
use Rattle.mend.specs.Table.{MendingOutcome, mended_by}
use Rattle.reason.specs.Table.{ReasonOutcome, reasoned}
use Rattle.reason_check.specs.Table.{verdict, Verdict}
use Rattle.proof.specs.Table.{ProofOutcome, proved}
use Rattle.proof_check.specs.Table.{judged, Judged}
use Rattle.explain.specs.Table.{ExplainOutcome, explained}
use Rattle.derivation_check.specs.Table.{lines_verdict}
use Rattle.unit.specs.Table.{UnitOutcome, simulated}
use Rattle.valuation.specs.Table.{ValuationOutcome, filled_by}
use Rattle.satisfies.specs.Table.{tested_by, Tested}
use Rattle.rows_completion.specs.Table.{RowsOutcome, completed_by_rows}
use Rattle.rows_answer.specs.Table.{answered_in_rows, Answered}

-- The operations, the test of a word first, each over objects, kinds, words, a set of origins, what is asked, and the lent buffers as they are at entry.
-- Compaction and mending read a plain list and no set; what is compacted is lent to be written. The test of a statement reads a table and no words,
-- the question of rows the rows.
pub record Engine : Type 0 where
  pub word_check : ℕ → ℕ → ℕ → WordChecked
  pub net_check : ℕ → ℕ → List ℕ → ℕ → Checked
  pub scan : ℕ → ℕ → List ℕ → ℕ → ℕ → ℕ → List ℕ → ScanOutcome
  pub question : ℕ → ℕ → List ℕ → ℕ → ℕ → ℕ → List ℕ → QuestionOutcome
  pub clash_test : ℕ → ℕ → List ℕ → ℕ → List ℕ → ClashOutcome
  pub completion : ℕ → ℕ → List ℕ → ℕ → List ℕ → List ℕ → CompletionOutcome
  pub reason : ℕ → ℕ → List ℕ → ℕ → ℕ → ℕ → ℕ → List ℕ → List ℕ → ReasonOutcome
  pub reason_check : ℕ → ℕ → List ℕ → ℕ → ℕ → ℕ → ℕ → List ℕ → Verdict
  pub questions : ℕ → ℕ → List ℕ → ℕ → List ℕ → List ℕ → List ℕ → QuestionsOutcome
  pub compaction : ℕ → ℕ → List ℕ → List ℕ → CompactionOutcome
  pub mending : ℕ → ℕ → List ℕ → List ℕ → List ℕ → List ℕ → MendingOutcome
  pub valuation : ℕ → ℕ → List ℕ → ℕ → List ℕ → List ℕ → ValuationOutcome
  pub satisfies : ℕ → ℕ → List ℕ → ℕ → ℕ → ℕ → Tested
  pub completion_by_rows : ℕ → ℕ → List ℕ → ℕ → List ℕ → List ℕ → List ℕ → RowsOutcome
  pub answer_in_rows : ℕ → ℕ → List ℕ → List ℕ → ℕ → ℕ → Answered
  pub proof : ℕ → ℕ → List ℕ → ℕ → ℕ → ℕ → ℕ → List ℕ → List ℕ → ProofOutcome
  pub proof_check : ℕ → ℕ → List ℕ → ℕ → ℕ → ℕ → ℕ → List ℕ → Judged
  pub unit : ℕ → ℕ → List ℕ → ℕ → List ℕ → ℕ → List ℕ → UnitOutcome
  pub explanation : ℕ → ℕ → List ℕ → ℕ → ℕ → ℕ → ℕ → List ℕ → List ℕ → List ℕ → ExplainOutcome
  pub derivation_check : ℕ → ℕ → List ℕ → ℕ → ℕ → ℕ → ℕ → List ℕ → Verdict

-- A net whose words have origins, and a set of origins to read it with.
pub record Read (o k : ℕ) (ws : List ℕ) (set : ℕ) : Type 0 where
  pub net : NetFrom o k ws
  pub allowed : set ≤ set_limit

-- A set with which plain words are read: it has origin 0.
pub record HasZero (set : ℕ) : Type 0 where
  pub allowed : set ≤ set_limit
  pub zero : among set 0 ≡ true

-- The engine of the operations' own statements.
abbrev pub ours : Engine
ours = record {
  word_check = check_word;
  net_check = check_net;
  scan = scanned;
  question = questioned;
  clash_test = clashed_by;
  completion = completed_by;
  reason = reasoned;
  reason_check = verdict;
  questions = questioned_all;
  compaction = compacted_by;
  mending = mended_by;
  valuation = filled_by;
  satisfies = tested_by;
  completion_by_rows = completed_by_rows;
  answer_in_rows = answered_in_rows;
  proof = proved;
  proof_check = judged;
  unit = simulated;
  explanation = explained;
  derivation_check = lines_verdict;
}

-- What a scan leaves, done or spent, with the bytes `past` behind its marks.
abbrev ran : Scan → List ℕ → ScanOutcome
ran s past = scan_outcome (cond s.done (Ok s.count) (Err (answer.Spent s.count))) (s.marks ++ past)

-- The scan of another machine, with the right refusals: `run` gets the nodes, the chosen words, the start and the budget.
abbrev pub scanned_by : (ℕ → List ℕ → ℕ → ℕ → Scan) → ℕ → ℕ → List ℕ → ℕ → ℕ → ℕ → List ℕ → ScanOutcome
scanned_by run o k ws set x budget m =
    call
    (net_clauses (λ r. scan_outcome (Err (answer.Refused r)) m) o k ws set
    (clause 4 (bad_start (o + k) x) (scan_outcome (Err (answer.Refused BadQuestion)) m)
    ∷ clause 5 (ltb (length m) (o + k)) (scan_outcome (Err (answer.Refused ShortBuffer)) m)
    ∷ []))
    (ran (run (o + k) (chosen set ws) x budget) (drop (o + k) m))

-- Our engine with another scan, question or completion.
abbrev pub with_scan : (ℕ → ℕ → List ℕ → ℕ → ℕ → ℕ → List ℕ → ScanOutcome) → Engine
with_scan f = record {
  word_check = ours.word_check;
  net_check = ours.net_check;
  scan = f;
  question = ours.question;
  clash_test = ours.clash_test;
  completion = ours.completion;
  reason = ours.reason;
  reason_check = ours.reason_check;
  questions = ours.questions;
  compaction = ours.compaction;
  mending = ours.mending;
  valuation = ours.valuation;
  satisfies = ours.satisfies;
  completion_by_rows = ours.completion_by_rows;
  answer_in_rows = ours.answer_in_rows;
  proof = ours.proof;
  proof_check = ours.proof_check;
  unit = ours.unit;
  explanation = ours.explanation;
  derivation_check = ours.derivation_check;
}

abbrev pub with_question : (ℕ → ℕ → List ℕ → ℕ → ℕ → ℕ → List ℕ → QuestionOutcome) → Engine
with_question f = record {
  word_check = ours.word_check;
  net_check = ours.net_check;
  scan = ours.scan;
  question = f;
  clash_test = ours.clash_test;
  completion = ours.completion;
  reason = ours.reason;
  reason_check = ours.reason_check;
  questions = ours.questions;
  compaction = ours.compaction;
  mending = ours.mending;
  valuation = ours.valuation;
  satisfies = ours.satisfies;
  completion_by_rows = ours.completion_by_rows;
  answer_in_rows = ours.answer_in_rows;
  proof = ours.proof;
  proof_check = ours.proof_check;
  unit = ours.unit;
  explanation = ours.explanation;
  derivation_check = ours.derivation_check;
}

abbrev pub with_completion : (ℕ → ℕ → List ℕ → ℕ → List ℕ → List ℕ → CompletionOutcome) → Engine
with_completion f = record {
  word_check = ours.word_check;
  net_check = ours.net_check;
  scan = ours.scan;
  question = ours.question;
  clash_test = ours.clash_test;
  completion = f;
  reason = ours.reason;
  reason_check = ours.reason_check;
  questions = ours.questions;
  compaction = ours.compaction;
  mending = ours.mending;
  valuation = ours.valuation;
  satisfies = ours.satisfies;
  completion_by_rows = ours.completion_by_rows;
  answer_in_rows = ours.answer_in_rows;
  proof = ours.proof;
  proof_check = ours.proof_check;
  unit = ours.unit;
  explanation = ours.explanation;
  derivation_check = ours.derivation_check;
}
