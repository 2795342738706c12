-- Four worthless engines, and one that looks right. Each differs from ours only in what is wrong with it.
use Rattle.unit.specs.declared.UnitError.TheVariants as simulatedAs
use Rattle.satisfies.specs.declared.TestError.TheVariants as tested
use Rattle.valuation.specs.declared.ValuationError.TheVariants as filled
use Rattle.proof_check.specs.declared.JudgeError.TheVariants as judgedAs
use Rattle.proof.specs.declared.ProofError.TheVariants as provedAs
use Rattle.explain.specs.declared.ExplainError.TheVariants as explainedAs
use Rattle.reason.specs.declared.ReasonError.TheVariants as reasonedAs
use Rattle.mend.specs.declared.MendError.TheVariants as mendedNet
use Rattle.completion.specs.declared.CompletionError.TheVariants as completed
use Rattle.questions.specs.declared.PairsError.TheVariants as askedAll
use Rattle.scan.specs.declared.ScanError.TheVariants as scanned
use Rattle.std.specs.Prelude.{ℕ, zero, suc, ◌+◌, true, false, List, [], ◌∷◌, ◌++◌, drop, Err, Ok}
use Rattle.theory.specs.Marks.{link, round, commands, scan_start}
use Rattle.theory.specs.Scans.{same, Scan, full_budget}
use Rattle.theory.specs.Origins.{chosen}
use Rattle.theory.specs.declared.Command.{Command}
use Rattle.net.specs.declared.Refusal.{Refusal}
use Rattle.scan.specs.Table.{ScanOutcome, scan_outcome, scan_table}
use Rattle.question.specs.Table.{question_outcome, question_table, questioned, read_at, Asked}
use Rattle.clash.specs.Table.{clash_outcome}
use Rattle.question.specs.declared.Answer.TheVariants.{None}
use Rattle.questions.specs.Table.{questions_outcome}
use Rattle.completion.specs.Table.{CompletionOutcome, completion_outcome, completion_clauses, completion_done}
use Rattle.compact.specs.Table.{compaction_outcome}
use Rattle.mend.specs.Table.{mending_outcome}
use Rattle.reason.specs.Table.{reason_outcome}
use Rattle.proof.specs.Table.{proof_outcome}
use Rattle.explain.specs.Table.{explain_outcome}
use Rattle.unit.specs.Table.{unit_outcome}
use Rattle.valuation.specs.Table.{valuation_outcome}
use Rattle.rows_completion.specs.Table.{rows_outcome}
use Rattle.net.specs.Clauses.{call}
use Rattle.net.specs.Table.{net_clauses}
use Rattle.promises.specs.Engines.{Engine, ours, scanned_by, with_scan, with_question, with_completion}

-- One that refuses all calls, with the refusal r.
abbrev pub refuser : Refusal → Engine
refuser r = record {
  word_check = λ o k w. Err r;
  net_check = λ o k ws set. Err r;
  scan = λ o k ws set x budget m. scan_outcome (Err (scanned.Refused r)) m;
  question = λ o k ws set x y m. question_outcome (Err r) m;
  clash_test = λ o k ws set m. clash_outcome (Err r) m;
  completion = λ o k ws set m l. completion_outcome (Err (completed.Refused r)) m l;
  reason = λ o k ws set x y sign d l. reason_outcome (Err (reasonedAs.Refused r)) d l;
  reason_check = λ o k ws set x y sign l. Err r;
  questions = λ o k ws set ps bs m. questions_outcome (Err (askedAll.Refused r)) bs m;
  compaction = λ o k ws m. compaction_outcome (Err r) ws m;
  mending = λ o k ws kept dropped m. mending_outcome (Err (mendedNet.Refused r)) kept dropped m;
  valuation = λ o k ws set t m. valuation_outcome (Err (filled.Refused r)) t m;
  satisfies = λ o k t x y sign. Err (tested.Refused r);
  completion_by_rows = λ o k ws set yeses noes l. rows_outcome (Err (completed.Refused r)) yeses noes l;
  answer_in_rows = λ o k yeses noes x y. Err r;
  proof = λ o k ws set x y sign d l. proof_outcome (Err (provedAs.Refused r)) d l;
  proof_check = λ o k ws set x y sign l. Err (judgedAs.Refused r);
  unit = λ o k ws set program budget m. unit_outcome (Err (simulatedAs.Refused r)) m;
  explanation = λ o k ws set x y sign d m l. explain_outcome (Err (explainedAs.Refused r)) d m l;
  derivation_check = λ o k ws set x y sign l. Err r;
}

-- An answer turned into none.
abbrev pub silenced : Asked → Asked
silenced (Ok (a, count)) = Ok (None, count)
silenced (Err r) = Err r

-- One that answers none to every question, with the right rounds, marks and refusals.
abbrev pub denier : Engine
denier = with_question (λ o k ws set x y m. question_outcome (silenced (questioned o k ws set x y m).answer) (questioned o k ws set x y m).marks)

-- The chosen words as their own completion, with the right refusals.
abbrev pub own_completion : ℕ → ℕ → List ℕ → ℕ → List ℕ → List ℕ → CompletionOutcome
own_completion o k ws set m l =
    call (net_clauses (λ r. completion_outcome (Err (completed.Refused r)) m l) o k ws set (completion_clauses (chosen set ws) m l (o + k))) (completion_done (chosen set ws) m l (o + k))

-- One that returns it.
abbrev pub copier : Engine
copier = with_completion own_completion

-- A scan that runs the first round and reports an invented count, with the right refusals, and the right outcome of a budget that is spent.
abbrev pub one_round : (ℕ → ℕ → List ℕ → ℕ → ℕ → ℕ → List ℕ → ℕ) → ℕ → ℕ → List ℕ → ℕ → ℕ → ℕ → List ℕ → ScanOutcome
one_round invented o k ws set x budget m =
    call (scan_table o k ws set x budget m) (scan_outcome (Ok (invented o k ws set x budget m)) (round commands (chosen set ws) (scan_start (o + k) x) ++ drop (o + k) m))

-- One that does so.
abbrev pub inventor : (ℕ → ℕ → List ℕ → ℕ → ℕ → ℕ → List ℕ → ℕ) → Engine
inventor invented = with_scan (one_round invented)

-- All links, each tested against the marks that the links before it left, and not against those at the command's beginning.
unfoldable pub hasty_links : Command → List ℕ → List ℕ → List ℕ
hasty_links c [] m = m
hasty_links c (w ∷ ws) m = hasty_links c ws (link c m w m)

-- A round of such commands, and rounds until one sets nothing, within a budget.
unfoldable pub hasty_round : List Command → List ℕ → List ℕ → List ℕ
hasty_round [] ws m = m
hasty_round (c ∷ cs) ws m = hasty_round cs ws (hasty_links c ws m)

unfoldable pub hasty_rounds : List Command → List ℕ → ℕ → ℕ → List ℕ → Scan
hasty_rounds cs ws count zero m = record { done = false; count = count; marks = m }
hasty_rounds cs ws count (suc budget) m =
    elim (same m (hasty_round cs ws m)) [
      | true ↦ record { done = true; count = suc count; marks = hasty_round cs ws m }
      | false ↦ hasty_rounds cs ws (suc count) budget (hasty_round cs ws m)
    ]

-- The scan by such rounds.
abbrev pub hasty_scan : ℕ → List ℕ → ℕ → ℕ → Scan
hasty_scan n ws x budget = hasty_rounds commands ws 0 budget (scan_start n x)

-- One that updates marks inside a command, in the scan and in the question.
abbrev pub hasty : Engine
hasty = record {
  word_check = ours.word_check;
  net_check = ours.net_check;
  scan = scanned_by hasty_scan;
  question = λ o k ws set x y m. call (question_table o k ws set x y m) (read_at y (hasty_scan (o + k) (chosen set ws) x (full_budget (o + k))) (drop (o + k) m));
  clash_test = ours.clash_test;
  completion = ours.completion;
  reason = ours.reason;
  reason_check = ours.reason_check;
  questions = ours.questions;
  compaction = ours.compaction;
  mending = ours.mending;
  valuation = ours.valuation;
  satisfies = ours.satisfies;
  completion_by_rows = ours.completion_by_rows;
  answer_in_rows = ours.answer_in_rows;
  proof = ours.proof;
  proof_check = ours.proof_check;
  unit = ours.unit;
  explanation = ours.explanation;
  derivation_check = ours.derivation_check;
}
