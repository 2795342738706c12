-- The paper's number of each outcome.
use Rattle.std.specs.Prelude.{ℕ}
use Rattle.net.specs.Table.{checked_reply, Checked}
use Rattle.check_word.specs.Table.{word_reply, WordChecked}
use Rattle.scan.specs.Table.{ScanOutcome, scan_reply}
use Rattle.question.specs.Table.{QuestionOutcome, asked_reply}
use Rattle.questions.specs.Table.{QuestionsOutcome, asked_all_reply}
use Rattle.clash.specs.Table.{ClashOutcome, clashed_reply}
use Rattle.completion.specs.Table.{CompletionOutcome, completed_reply}
use Rattle.compact.specs.Table.{CompactionOutcome, compacted_reply}
use Rattle.mend.specs.Table.{MendingOutcome, mended_reply}
use Rattle.reason.specs.Table.{ReasonOutcome, reasoned_reply}
use Rattle.reason_check.specs.Table.{verdict_reply, Verdict}
use Rattle.proof.specs.Table.{ProofOutcome, proved_reply}
use Rattle.proof_check.specs.Table.{judged_reply, Judged}
use Rattle.explain.specs.Table.{ExplainOutcome, explained_reply}
use Rattle.unit.specs.Table.{UnitOutcome, simulated_reply}
use Rattle.valuation.specs.Table.{ValuationOutcome, filled_reply}
use Rattle.satisfies.specs.Table.{tested_reply, Tested}
use Rattle.rows_completion.specs.Table.{RowsOutcome}
use Rattle.rows_answer.specs.Table.{answered_reply, Answered}
use Rattle.netfile.specs.Contents.{contents_reply}
use Rattle.netfile.specs.Table.{FileOutcome}

abbrev pub word_number : WordChecked → ℕ
word_number r = (word_reply r).number

abbrev pub checked_number : Checked → ℕ
checked_number r = (checked_reply r).number

abbrev pub scan_number : ScanOutcome → ℕ
scan_number r = (scan_reply r.answer).number

abbrev pub question_number : QuestionOutcome → ℕ
question_number r = (asked_reply r.answer).number

abbrev pub clash_number : ClashOutcome → ℕ
clash_number r = (clashed_reply r.answer).number

abbrev pub completion_number : CompletionOutcome → ℕ
completion_number r = (completed_reply r.answer).number

abbrev pub reason_number : ReasonOutcome → ℕ
reason_number r = (reasoned_reply r.answer).number

abbrev pub verdict_number : Verdict → ℕ
verdict_number r = (verdict_reply r).number

abbrev pub questions_number : QuestionsOutcome → ℕ
questions_number r = (asked_all_reply r.answer).number

abbrev pub compaction_number : CompactionOutcome → ℕ
compaction_number r = (compacted_reply r.answer).number

abbrev pub mending_number : MendingOutcome → ℕ
mending_number r = (mended_reply r.answer).number

abbrev pub valuation_number : ValuationOutcome → ℕ
valuation_number r = (filled_reply r.answer).number

abbrev pub satisfies_number : Tested → ℕ
satisfies_number r = (tested_reply r).number

abbrev pub rows_number : RowsOutcome → ℕ
rows_number r = (completed_reply r.answer).number

abbrev pub answer_in_rows_number : Answered → ℕ
answer_in_rows_number r = (answered_reply r).number

abbrev pub proof_number : ProofOutcome → ℕ
proof_number r = (proved_reply r.answer).number

abbrev pub proof_check_number : Judged → ℕ
proof_check_number r = (judged_reply r).number

abbrev pub unit_number : UnitOutcome → ℕ
unit_number r = (simulated_reply r.answer).number

abbrev pub explanation_number : ExplainOutcome → ℕ
explanation_number r = (explained_reply r.answer).number

abbrev pub file_number : FileOutcome → ℕ
file_number r = (contents_reply r.contents).number
