-- The reply of what each operation leaves, and that the values of the clash test and of both completions fit into 32 bits.
use Rattle.completion.specs.declared.CompletionError.TheVariants as completed
use Rattle.std.specs.Prelude.{Err}
use Prim.Native.Nat.{ℕ, zero, suc, ◌+◌, ◌≤◌, ◌<◌}
use mathlib.Core.Path.{refl}
use mathlib.Core.Bool.{◌||◌}
use mathlib.Core.List.{List}
use native.Mathlib.Omega.{arith}
use borrow.Author.Tests.{ltb-true}
use lib.Dec.{ltb}
use lib.ListN.{length}
use Rattle.theory.specs.Nets.{Net}
use Rattle.theory.specs.Origins.{chosen}
use Rattle.theory.specs.Completion.{full_marks, complete}
use Rattle.theory.specs.Rows.{rows_size}
use Rattle.theory.proofs.completion.Demand3.{complete_net}
use Rattle.net.specs.Table.{Reply}
use Rattle.net.proofs.NetCheck.{chosen_checked}
use Rattle.net.specs.Clauses.{call}
use Rattle.scan.specs.Table.{ScanOutcome, scan_reply}
use Rattle.question.specs.Table.{QuestionOutcome, asked_reply}
use Rattle.questions.specs.Table.{QuestionsOutcome, asked_all_reply}
use Rattle.clash.specs.Table.{ClashOutcome, clash_outcome, clash_nodes, first_both, first_clash, clash_search, nowhere, clash_clauses, clash_done, clashed_by, clashed_reply}
use Rattle.completion.specs.Table.{CompletionOutcome, completion_outcome, completion_clauses, completion_done, completed_by, completed_reply}
use Rattle.compact.specs.Table.{CompactionOutcome, compacted_reply}
use Rattle.mend.specs.Table.{MendingOutcome, mended_reply}
use Rattle.reason.specs.Table.{ReasonOutcome, reasoned_reply}
use Rattle.explain.specs.Table.{ExplainOutcome, explained_reply}
use Rattle.proof.specs.Table.{ProofOutcome, proved_reply}
use Rattle.valuation.specs.Table.{ValuationOutcome, filled_reply}
use Rattle.rows_completion.specs.Table.{RowsOutcome, rows_outcome, rows_clauses, rows_done, completed_by_rows}
use Rattle.unit.specs.Table.{UnitOutcome, simulated_reply}
use Rattle.library_reply.specs.Fits.{Fits}
use Rattle.library_reply.proofs.Fitting.{either, fits, bare, table_fits}

-- The reply of what a scan leaves.
abbrev pub scan_gives : ScanOutcome → Reply
scan_gives s = scan_reply s.answer

-- The reply of what a question leaves.
abbrev pub question_gives : QuestionOutcome → Reply
question_gives q = asked_reply q.answer

-- The reply of what a screenful of questions leaves.
abbrev pub questions_gives : QuestionsOutcome → Reply
questions_gives q = asked_all_reply q.answer

-- The reply of what a compaction leaves.
abbrev pub compaction_gives : CompactionOutcome → Reply
compaction_gives s = compacted_reply s.answer

-- The reply of what mending leaves.
abbrev pub mending_gives : MendingOutcome → Reply
mending_gives s = mended_reply s.answer

-- The reply of what a reason leaves.
abbrev pub reason_gives : ReasonOutcome → Reply
reason_gives s = reasoned_reply s.answer

-- The reply of what an explanation leaves.
abbrev pub explain_gives : ExplainOutcome → Reply
explain_gives s = explained_reply s.answer

-- The reply of what a proof leaves.
abbrev pub proof_gives : ProofOutcome → Reply
proof_gives s = proved_reply s.answer

-- The reply of what a run of the unit leaves.
abbrev pub unit_gives : UnitOutcome → Reply
unit_gives s = simulated_reply s.answer

-- The reply of what a valuation leaves.
abbrev pub valuation_gives : ValuationOutcome → Reply
valuation_gives s = filled_reply s.answer

-- ── the clash test ──

-- The reply of what a clash test leaves.
abbrev pub clash_gives : ClashOutcome → Reply
clash_gives t = clashed_reply t.answer

-- The clash test: what it finds is a node and a kind of the net.
module _ (o k : ℕ) (ws : List ℕ) where
  first_clash_fits : (x j : ℕ) → x + j ≤ 1024 → o + k ≤ 1024 → Fits (clashed_reply (first_clash o k ws x j))
  unfolding first_clash
  first_clash_fits x zero h i = bare
  first_clash_fits x (suc j) h i =
      let y = first_both (full_marks o k ws x) o k in
      either clashed_reply (ltb y (o + k))
      (λ t. fits (omega arith) (omega (arith, ltb-true y (o + k) t))) (λ _. first_clash_fits (suc x) j (omega arith) i)

  module _ (m : List ℕ) where
    clash_net_fits : (n : ℕ) → Net o k ws → Fits (clash_gives (call (clash_clauses (clash_search o k ws) m n) (clash_done (clash_search o k ws) m n)))
    clash_net_fits n net =
        either clash_gives (ltb (length m) n) (λ _. bare)
        (λ _. either clash_gives (nowhere (clash_search o k ws)) (λ _. bare) (λ _. first_clash_fits 0 (clash_nodes o k) (omega (arith, net.few)) net.few))

pub clash_fits : (o k : ℕ) (ws : List ℕ) (set : ℕ) (m : List ℕ) → Fits (clashed_reply (clashed_by o k ws set m).answer)
clash_fits o k ws set m =
    table_fits o k ws set clash_gives (λ r. clash_outcome (Err r) m) (clash_clauses (clash_search o k (chosen set ws)) m) (clash_done (clash_search o k (chosen set ws)) m) (λ r. refl)
    (λ n e. clash_net_fits o k (chosen set ws) m n (chosen_checked o k ws set e).2)

-- ── the completion ──

-- The reply of what a completion leaves.
abbrev pub completion_gives : CompletionOutcome → Reply
completion_gives s = completed_reply s.answer

-- Its words are at most as many as a net may have.
few_words : (o k : ℕ) (ws : List ℕ) → Net o k ws → length (complete o k ws) < 4294967296
few_words o k ws net = omega (arith, (complete_net o k ws net).short)

module _ (o k : ℕ) (ws m l : List ℕ) where
  completion_net_fits : (n : ℕ) → Net o k ws → Fits (completion_gives (call (completion_clauses (complete o k ws) m l n) (completion_done (complete o k ws) m l n)))
  completion_net_fits n net =
      let low = few_words o k ws net in
      either completion_gives (ltb (length m) n) (λ _. bare)
      (λ _. either completion_gives (ltb (length l) (length (complete o k ws))) (λ _. fits low (omega arith)) (λ _. fits low (omega arith)))

pub completion_fits : (o k : ℕ) (ws : List ℕ) (set : ℕ) (m l : List ℕ) → Fits (completed_reply (completed_by o k ws set m l).answer)
completion_fits o k ws set m l =
    table_fits o k ws set completion_gives (λ r. completion_outcome (Err (completed.Refused r)) m l) (completion_clauses (complete o k (chosen set ws)) m l) (completion_done (complete o k (chosen set ws)) m l) (λ r. refl)
    (λ n e. completion_net_fits o k (chosen set ws) m l n (chosen_checked o k ws set e).2)

-- ── the completion by rows ──

-- The reply of what a completion by rows leaves.
abbrev pub rows_gives : RowsOutcome → Reply
rows_gives s = completed_reply s.answer

module _ (o k : ℕ) (ws yeses noes l : List ℕ) where
  rows_net_fits : (n : ℕ) → Net o k ws → Fits (rows_gives (call (rows_clauses o k ws yeses noes l n) (rows_done o k ws yeses noes l n)))
  rows_net_fits n net =
      let low = few_words o k ws net in
      either rows_gives (ltb (length yeses) (rows_size n) || ltb (length noes) (rows_size n)) (λ _. bare)
      (λ _. either rows_gives (ltb (length l) (length (complete o k ws))) (λ _. fits low (omega arith)) (λ _. fits low (omega arith)))

pub rows_fits : (o k : ℕ) (ws : List ℕ) (set : ℕ) (yeses noes l : List ℕ) → Fits (completed_reply (completed_by_rows o k ws set yeses noes l).answer)
rows_fits o k ws set yeses noes l =
    table_fits o k ws set rows_gives (λ r. rows_outcome (Err (completed.Refused r)) yeses noes l) (rows_clauses o k (chosen set ws) yeses noes l) (rows_done o k (chosen set ws) yeses noes l) (λ r. refl)
    (λ n e. rows_net_fits o k (chosen set ws) yeses noes l n (chosen_checked o k ws set e).2)
