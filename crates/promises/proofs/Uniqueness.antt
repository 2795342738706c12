-- How tight the statements are: for each public operation, the reader and the text, two outcomes of one call that both satisfy its statement are
-- the same, the answer and every lent buffer.
use Prim.Native.Nat.{ℕ}
use mathlib.Core.Path.{◌≡◌, refl, sym, ap, ◌∙◌}
use mathlib.Core.List.{List, ◌++◌}
use lib.ListN.{length, drop}
use Rattle.check_word.specs.Table.{check_word, WordChecked}
use Rattle.net.specs.Table.{check_net, Checked}
use Rattle.scan.specs.Table.{ScanOutcome, scan_outcome, scanned, Scanned}
use Rattle.question.specs.Table.{QuestionOutcome, question_outcome, questioned, Asked}
use Rattle.questions.specs.Table.{QuestionsOutcome, questions_outcome, questioned_all, AskedAll}
use Rattle.clash.specs.Table.{ClashOutcome, clash_outcome, clashed_by, Clashed}
use Rattle.completion.specs.Table.{CompletionOutcome, completion_outcome, completed_by, Completed}
use Rattle.compact.specs.Table.{CompactionOutcome, compaction_outcome, compacted_by, CompactedList}
use Rattle.mend.specs.Table.{MendingOutcome, mending_outcome, mended_by, MendedNet}
use Rattle.reason.specs.Table.{ReasonOutcome, reason_outcome, reasoned, Reasoned}
use Rattle.reason_check.specs.Table.{verdict, Verdict}
use Rattle.proof.specs.Table.{ProofOutcome, proof_outcome, proved, Proved}
use Rattle.proof_check.specs.Table.{judged, Judged}
use Rattle.explain.specs.Table.{ExplainOutcome, explain_outcome, explained, Explained}
use Rattle.derivation_check.specs.Table.{lines_verdict}
use Rattle.unit.specs.Table.{UnitOutcome, unit_outcome, simulated, Simulated}
use Rattle.valuation.specs.Table.{ValuationOutcome, valuation_outcome, filled_by, Filled}
use Rattle.satisfies.specs.Table.{tested_by, Tested}
use Rattle.rows_completion.specs.Table.{RowsOutcome, rows_outcome, completed_by_rows}
use Rattle.rows_answer.specs.Table.{answered_in_rows, Answered}
use Rattle.netfile.specs.Contents.{Contents, contents_of, bodies_of}
use Rattle.ask_text.specs.Text.{text_of}
use Rattle.net.specs.Clauses.{Clause}
use Rattle.promises.specs.Tables.{Obeys}

-- Two things that are both a third are one.
both_are : {A : Type 0} {s : A} (a b : A) → a ≡ s → b ≡ s → a ≡ b
both_are a b e f = e ∙ sym f

-- A number table leaves one outcome: two that obey it are the same, so demand 1 alone fixes what each operation gives and leaves.
pub obeys_unique : {A : Type 0} (number : A → ℕ) (ls : List (Clause A)) (done r q : A) → Obeys number ls done r → Obeys number ls done q → r ≡ q
obeys_unique number ls done r q a b = let d = (a.exactly (number r)).0 refl in both_are r q (a.leaves (number r) d) (b.leaves (number r) d)

-- Two outcomes of a scan that are one have one answer and one list of marks.
scan_parts : (r q : Scanned) (m l : List ℕ) → scan_outcome r m ≡ scan_outcome q l → (r ≡ q) × (m ≡ l)
scan_parts r q m l e = (ap (λ (s : ScanOutcome). s.answer) e, ap (λ (s : ScanOutcome). s.marks) e)

module _ (o k : ℕ) (ws : List ℕ) (set : ℕ) where
  -- The scan: r and q answers, m and l the marks left.
  pub scan_unique : (x budget : ℕ) (marks : List ℕ) (r q : Scanned) (m l : List ℕ)
      → scan_outcome r m ≡ scanned o k ws set x budget marks → scan_outcome q l ≡ scanned o k ws set x budget marks → (r ≡ q) × (m ≡ l)
  scan_unique x budget marks r q m l e f = scan_parts r q m l (both_are (scan_outcome r m) (scan_outcome q l) e f)

  -- The marker unit: m and l the marks left.
  pub unit_unique : (program : List ℕ) (budget : ℕ) (marks : List ℕ) (r q : Simulated) (m l : List ℕ)
      → unit_outcome r m ≡ simulated o k ws set program budget marks → unit_outcome q l ≡ simulated o k ws set program budget marks → (r ≡ q) × (m ≡ l)
  unit_unique program budget marks r q m l e f =
      let p = both_are (unit_outcome r m) (unit_outcome q l) e f in
      (ap (λ (s : UnitOutcome). s.answer) p, ap (λ (s : UnitOutcome). s.marks) p)

  -- The question.
  pub question_unique : (x y : ℕ) (marks : List ℕ) (r q : Asked) (m l : List ℕ)
      → question_outcome r m ≡ questioned o k ws set x y marks → question_outcome q l ≡ questioned o k ws set x y marks → (r ≡ q) × (m ≡ l)
  question_unique x y marks r q m l e f =
      let p = both_are (question_outcome r m) (question_outcome q l) e f in
      (ap (λ (s : QuestionOutcome). s.answer) p, ap (λ (s : QuestionOutcome). s.marks) p)

  -- The screenful: c and d the bytes, m and l the marks left.
  pub questions_unique : (ps bs marks : List ℕ) (r q : AskedAll) (c d m l : List ℕ)
      → questions_outcome r c m ≡ questioned_all o k ws set ps bs marks → questions_outcome q d l ≡ questioned_all o k ws set ps bs marks → (r ≡ q) × (c ≡ d) × (m ≡ l)
  questions_unique ps bs marks r q c d m l e f =
      let p = both_are (questions_outcome r c m) (questions_outcome q d l) e f in
      (ap (λ (s : QuestionsOutcome). s.answer) p, ap (λ (s : QuestionsOutcome). s.answers) p, ap (λ (s : QuestionsOutcome). s.marks) p)

  -- The clash test.
  pub clash_unique : (marks : List ℕ) (r q : Clashed) (m l : List ℕ) → clash_outcome r m ≡ clashed_by o k ws set marks → clash_outcome q l ≡ clashed_by o k ws set marks → (r ≡ q) × (m ≡ l)
  clash_unique marks r q m l e f =
      let p = both_are (clash_outcome r m) (clash_outcome q l) e f in
      (ap (λ (s : ClashOutcome). s.answer) p, ap (λ (s : ClashOutcome). s.marks) p)

  -- The completion: m and l the marks, c and d the lists left.
  pub completion_unique : (marks list : List ℕ) (r q : Completed) (m l c d : List ℕ)
      → completion_outcome r m c ≡ completed_by o k ws set marks list → completion_outcome q l d ≡ completed_by o k ws set marks list → (r ≡ q) × (m ≡ l) × (c ≡ d)
  completion_unique marks list r q m l c d e f =
      let p = both_are (completion_outcome r m c) (completion_outcome q l d) e f in
      (ap (λ (s : CompletionOutcome). s.answer) p, ap (λ (s : CompletionOutcome). s.marks) p, ap (λ (s : CompletionOutcome). s.list) p)

  -- The reason: m and l the scratches, c and d the lists left.
  pub reason_unique : (x y sign : ℕ) (scratch list : List ℕ) (r q : Reasoned) (m l c d : List ℕ)
      → reason_outcome r m c ≡ reasoned o k ws set x y sign scratch list → reason_outcome q l d ≡ reasoned o k ws set x y sign scratch list → (r ≡ q) × (m ≡ l) × (c ≡ d)
  reason_unique x y sign scratch list r q m l c d e f =
      let p = both_are (reason_outcome r m c) (reason_outcome q l d) e f in
      (ap (λ (s : ReasonOutcome). s.answer) p, ap (λ (s : ReasonOutcome). s.scratch) p, ap (λ (s : ReasonOutcome). s.list) p)

  -- The reason check, which is lent nothing to write to.
  pub check_unique : (x y sign : ℕ) (list : List ℕ) (r q : Verdict) → r ≡ verdict o k ws set x y sign list → q ≡ verdict o k ws set x y sign list → r ≡ q
  check_unique x y sign list r q e f = both_are r q e f

  -- The proof: m and l the scratches, c and d the lists left.
  pub proof_unique : (x y sign : ℕ) (scratch list : List ℕ) (r q : Proved) (m l c d : List ℕ)
      → proof_outcome r m c ≡ proved o k ws set x y sign scratch list → proof_outcome q l d ≡ proved o k ws set x y sign scratch list → (r ≡ q) × (m ≡ l) × (c ≡ d)
  proof_unique x y sign scratch list r q m l c d e f =
      let p = both_are (proof_outcome r m c) (proof_outcome q l d) e f in
      (ap (λ (s : ProofOutcome). s.answer) p, ap (λ (s : ProofOutcome). s.scratch) p, ap (λ (s : ProofOutcome). s.list) p)

  -- The proof check, which is lent nothing to write to.
  pub proof_check_unique : (x y sign : ℕ) (list : List ℕ) (r q : Judged) → r ≡ judged o k ws set x y sign list → q ≡ judged o k ws set x y sign list → r ≡ q
  proof_check_unique x y sign list r q e f = both_are r q e f

  -- The explanation: m and l the scratches, c and d the lists of the reason, a and b those of lines left.
  pub explanation_unique : (x y sign : ℕ) (scratch list lines : List ℕ) (r q : Explained) (m l c d a b : List ℕ)
      → explain_outcome r m c a ≡ explained o k ws set x y sign scratch list lines → explain_outcome q l d b ≡ explained o k ws set x y sign scratch list lines
      → (r ≡ q) × (m ≡ l) × (c ≡ d) × (a ≡ b)
  explanation_unique x y sign scratch list lines r q m l c d a b e f =
      let p = both_are (explain_outcome r m c a) (explain_outcome q l d b) e f in
      (ap (λ (s : ExplainOutcome). s.answer) p, ap (λ (s : ExplainOutcome). s.scratch) p, ap (λ (s : ExplainOutcome). s.list) p, ap (λ (s : ExplainOutcome). s.lines) p)

  -- The derivation check, which is lent nothing to write to.
  pub derivation_check_unique : (x y sign : ℕ) (list : List ℕ) (r q : Verdict) → r ≡ lines_verdict o k ws set x y sign list → q ≡ lines_verdict o k ws set x y sign list → r ≡ q
  derivation_check_unique x y sign list r q e f = both_are r q e f

  -- The valuation: m and l the tables, c and d the marks left.
  pub valuation_unique : (table marks : List ℕ) (r q : Filled) (m l c d : List ℕ)
      → valuation_outcome r m c ≡ filled_by o k ws set table marks → valuation_outcome q l d ≡ filled_by o k ws set table marks → (r ≡ q) × (m ≡ l) × (c ≡ d)
  valuation_unique table marks r q m l c d e f =
      let p = both_are (valuation_outcome r m c) (valuation_outcome q l d) e f in
      (ap (λ (s : ValuationOutcome). s.answer) p, ap (λ (s : ValuationOutcome). s.table) p, ap (λ (s : ValuationOutcome). s.marks) p)

  -- The completion by rows: m and l the yes rows, c and d the no rows, a and b the lists left.
  pub completion_by_rows_unique : (yeses noes list : List ℕ) (r q : Completed) (m l c d a b : List ℕ)
      → rows_outcome r m c a ≡ completed_by_rows o k ws set yeses noes list → rows_outcome q l d b ≡ completed_by_rows o k ws set yeses noes list → (r ≡ q) × (m ≡ l) × (c ≡ d) × (a ≡ b)
  completion_by_rows_unique yeses noes list r q m l c d a b e f =
      let p = both_are (rows_outcome r m c a) (rows_outcome q l d b) e f in
      (ap (λ (s : RowsOutcome). s.answer) p, ap (λ (s : RowsOutcome). s.yeses) p, ap (λ (s : RowsOutcome). s.noes) p, ap (λ (s : RowsOutcome). s.list) p)

-- The question of rows, which is lent nothing to write to.
pub answer_in_rows_unique : (o k : ℕ) (yeses noes : List ℕ) (x y : ℕ) (r q : Answered) → r ≡ answered_in_rows o k yeses noes x y → q ≡ answered_in_rows o k yeses noes x y → r ≡ q
answer_in_rows_unique o k yeses noes x y r q e f = both_are r q e f

-- The test of a statement in a valuation, which is lent nothing to write to.
pub satisfies_unique : (o k : ℕ) (table : List ℕ) (x y sign : ℕ) (r q : Tested) → r ≡ tested_by o k table x y sign → q ≡ tested_by o k table x y sign → r ≡ q
satisfies_unique o k table x y sign r q e f = both_are r q e f

-- The test of a word, which is lent nothing.
pub word_unique : (o k w : ℕ) (r q : WordChecked) → r ≡ check_word o k w → q ≡ check_word o k w → r ≡ q
word_unique o k w r q e f = both_are r q e f

-- The check of a net, which is lent nothing to write to either.
pub net_unique : (o k : ℕ) (ws : List ℕ) (set : ℕ) (r q : Checked) → r ≡ check_net o k ws set → q ≡ check_net o k ws set → r ≡ q
net_unique o k ws set r q e f = both_are r q e f

-- The compaction: m and l the lists, c and d the marks left.
pub compaction_unique : (o k : ℕ) (list marks : List ℕ) (r q : CompactedList) (m l c d : List ℕ)
    → compaction_outcome r m c ≡ compacted_by o k list marks → compaction_outcome q l d ≡ compacted_by o k list marks → (r ≡ q) × (m ≡ l) × (c ≡ d)
compaction_unique o k list marks r q m l c d e f =
    let p = both_are (compaction_outcome r m c) (compaction_outcome q l d) e f in
    (ap (λ (s : CompactionOutcome). s.answer) p, ap (λ (s : CompactionOutcome). s.list) p, ap (λ (s : CompactionOutcome). s.marks) p)

-- Mending: m and l the lists of kept words, c and d those of dropped words, a and b the marks left.
pub mending_unique : (o k : ℕ) (ws kept dropped marks : List ℕ) (r q : MendedNet) (m l c d a b : List ℕ)
    → mending_outcome r m c a ≡ mended_by o k ws kept dropped marks → mending_outcome q l d b ≡ mended_by o k ws kept dropped marks → (r ≡ q) × (m ≡ l) × (c ≡ d) × (a ≡ b)
mending_unique o k ws kept dropped marks r q m l c d a b e f =
    let p = both_are (mending_outcome r m c a) (mending_outcome q l d b) e f in
    (ap (λ (s : MendingOutcome). s.answer) p, ap (λ (s : MendingOutcome). s.kept) p, ap (λ (s : MendingOutcome). s.dropped) p, ap (λ (s : MendingOutcome). s.marks) p)

-- The reader of a file: the contents, and the bytes of the four bodies.
pub contents_unique : (file : List ℕ) (r q : Contents) → r ≡ contents_of file → q ≡ contents_of file → r ≡ q
contents_unique file r q e f = both_are r q e f

pub bodies_unique : (file : List ℕ) (b c : List (List ℕ)) → b ≡ bodies_of file → c ≡ bodies_of file → b ≡ c
bodies_unique file b c e f = both_are b c e f

-- The text of `ask`: the number of bytes, and the room it was lent.
pub text_unique : (file room : List ℕ) (r q : ℕ) (m l : List ℕ)
    → (m ≡ text_of file ++ drop (length (text_of file)) room) × (r ≡ length (text_of file))
    → (l ≡ text_of file ++ drop (length (text_of file)) room) × (q ≡ length (text_of file)) → (r ≡ q) × (m ≡ l)
text_unique file room r q m l e f = (both_are r q e.1 f.1, both_are m l e.0 f.0)
