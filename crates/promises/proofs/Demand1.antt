-- Demand 1, kept by our engine: whatever numbers and buffers a call is given, its number is that of the first clause that applies, each buffer is
-- left as that clause says, and where no clause applies the call is done. Nothing is asked of the caller.
use Prim.Native.Nat.{ℕ, zero, suc, ◌+◌, ◌*◌}
use mathlib.Core.Path.{◌≡◌, refl, sym}
use mathlib.Core.Bool.{Bool, true, false, cond}
use mathlib.Core.List.{List, []}
use lib.Dec.{ltb}
use lib.ListN.{length}
use Rattle.std.specs.Prelude.{Ok, Some, Err}
use Rattle.theory_laws.specs.Over.{over}
use Rattle.theory_laws.proofs.Booleans.{contradiction}
use Rattle.theory.specs.Words.{sign_at}
use Rattle.theory.specs.Completion.{full_marks, complete}
use Rattle.theory.specs.Checks.{passes}
use Rattle.theory.specs.Origins.{chosen}
use Rattle.theory.specs.Compaction.{compacted}
use Rattle.theory.specs.Mending.{kept_from, dropped_from}
use Rattle.net.specs.Table.{check_net, net_table, net_done}
use Rattle.check_word.specs.Table.{word_table, check_word}
use Rattle.scan.specs.Table.{scanned, scan_table, scan_done}
use Rattle.question.specs.Table.{questioned, question_table, question_done}
use Rattle.clash.specs.Table.{first_both, first_clash, clash_nodes, clash_search, nowhere, clash_table, clash_done, clashed_reply, clashed_by, Clashed}
use Rattle.completion.specs.Table.{completion_table, completion_done, completed_by}
use Rattle.compact.specs.Table.{compaction_table, compaction_done, compacted_by}
use Rattle.mend.specs.Table.{mending_table, mending_done, mended_by}
use Rattle.reason.specs.Table.{filled, reason_of, reason_table, reason_done, reasoned}
use Rattle.reason_check.specs.Table.{check_table, check_done, verdict}
use Rattle.proof.specs.Table.{proof_table, proof_done, proved}
use Rattle.proof_check.specs.Table.{judged_table, judged_done, judged}
use Rattle.derivation_lines.specs.Lines.{Line}
use Rattle.explain.specs.Table.{explain_outcome, explaining, roomless, explain_table, explain_done, explained}
use Rattle.explain.specs.declared.ExplainError.TheVariants as explainedAs
use Rattle.derivation_check.specs.Table.{accepts, lines_done, lines_verdict}
use Rattle.unit.specs.Table.{unit_table, unit_done, simulated}
use Rattle.theory.specs.Valuations.{satisfies}
use Rattle.valuation.specs.Values.{own_values}
use Rattle.valuation.specs.Table.{valuation_table, valuation_done, filled_by}
use Rattle.satisfies.specs.Table.{satisfies_table, satisfies_done, tested_by}
use Rattle.rows_completion.specs.Table.{rows_table, rows_done, completed_by_rows}
use Rattle.rows_answer.specs.Table.{answer_in_rows, answer_table, answered_in_rows}
use Rattle.promises.specs.Tables.{Obeys}
use Rattle.questions.specs.Table.{questions_table, questions_done, questioned_all}
use Rattle.netfile.specs.Table.{read_from, file_table, file_done}
use Rattle.netfile.proofs.Called.{file_called}
use Rattle.promises.specs.Numbers.{word_number, checked_number, scan_number, question_number, clash_number, completion_number, reason_number, verdict_number, questions_number, compaction_number, mending_number, valuation_number, satisfies_number, rows_number, answer_in_rows_number, proof_number, proof_check_number, unit_number, explanation_number, file_number}
use Rattle.promises.specs.Engines.{ours}
use Rattle.promises.specs.Demand1.{Demand1}
use Rattle.promises.proofs.Deciding.{obeys}

-- A search that came to some clash has number 0.
clash_found : (o k : ℕ) (ws : List ℕ) (x j : ℕ) → nowhere (first_clash o k ws x j) ≡ false → (clashed_reply (first_clash o k ws x j)).number ≡ 0
unfolding first_clash
clash_found o k ws x zero e = contradiction (sym e)
clash_found o k ws x (suc j) e =
    at (first_both (full_marks o k ws x) o k) (first_clash o k ws (suc x) j) (ltb (first_both (full_marks o k ws x) o k) (o + k)) (clash_found o k ws (suc x) j) e
  where
    at : (y : ℕ) (c : Clashed) (q : Bool) → (nowhere c ≡ false → (clashed_reply c).number ≡ 0) → nowhere (cond q (Ok (Some (x, y))) c) ≡ false
        → (clashed_reply (cond q (Ok (Some (x, y))) c)).number ≡ 0
    at y c true h f = refl
    at y c false h f = h f

verdict_done : (q : Bool) → verdict_number (Ok q) ≡ 0
verdict_done true = refl
verdict_done false = refl

-- Whichever list is too short, the number is 8.
roomless_number : (all : List ℕ) (ls : List Line) (past m l : List ℕ) → explanation_number (roomless all ls past m l) ≡ 8
roomless_number all ls past m l = at (ltb (length m) (length all))
  where
    at : (q : Bool) → explanation_number (cond q (explain_outcome (Err (explainedAs.ShortReason (length all))) past m l) (explain_outcome (Err (explainedAs.ShortLines (4 * length ls))) past (over all m) l)) ≡ 8
    at true = refl
    at false = refl

tested_done : (q : Bool) → satisfies_number (Ok q) ≡ 0
tested_done true = refl
tested_done false = refl

-- The test of a word obeys its table: numbers 1 and 3, or 0.
pub word_obeys : (o k w : ℕ) → Obeys word_number (word_table o k w) (Ok tt) (check_word o k w)
word_obeys o k w = obeys word_number _ _ (record { numbered = (refl, (refl, tt)); once = refl; nonzero = refl; zero = λ h. refl }) _ refl

module _ (o k : ℕ) (ws : List ℕ) (set : ℕ) where
  -- The check of a net obeys its table: numbers 1, 2, 15 and 3, or 0.
  pub net_obeys : Obeys checked_number (net_table o k ws set) (net_done o k) (check_net o k ws set)
  unfolding check_net
  net_obeys =
      obeys checked_number _ _ (record { numbered = (refl, (refl, (refl, (refl, tt)))); once = refl; nonzero = refl; zero = λ h. refl }) _
      refl

  -- The scan: numbers 1, 2, 15, 3 to 6, or 0.
  pub scan_obeys : (x budget : ℕ) (m : List ℕ) → Obeys scan_number (scan_table o k ws set x budget m) (scan_done (chosen set ws) x budget m (o + k)) (scanned o k ws set x budget m)
  scan_obeys x budget m =
      obeys scan_number _ _ (record { numbered = (refl, (refl, (refl, (refl, (refl, (refl, (refl, tt))))))); once = refl; nonzero = refl; zero = λ h. refl }) _
      refl

  -- The question: numbers 1, 2, 15, 3 to 5, or 0; so never 6.
  pub question_obeys : (x y : ℕ) (m : List ℕ) → Obeys question_number (question_table o k ws set x y m) (question_done (chosen set ws) x y m (o + k)) (questioned o k ws set x y m)
  question_obeys x y m =
      obeys question_number _ _ (record { numbered = (refl, (refl, (refl, (refl, (refl, (refl, tt)))))); once = refl; nonzero = refl; zero = λ h. refl }) _
      refl

  -- The clash test: numbers 1, 2, 15, 3, 5 and 7, or 0.
  pub clash_obeys : (m : List ℕ) → Obeys clash_number (clash_table o k ws set m) (clash_done (clash_search o k (chosen set ws)) m (o + k)) (clashed_by o k ws set m)
  clash_obeys m =
      obeys clash_number _ _ (record { numbered = (refl, (refl, (refl, (refl, (refl, (refl, tt)))))); once = refl; nonzero = refl; zero = λ h. clash_found o k (chosen set ws) 0 (clash_nodes o k) h.1.1.1.1.1.0 }) _
      refl

  -- The completion: numbers 1, 2, 15, 3, 5 and 8, or 0.
  pub completion_obeys : (m l : List ℕ) → Obeys completion_number (completion_table o k ws set m l) (completion_done (complete o k (chosen set ws)) m l (o + k)) (completed_by o k ws set m l)
  completion_obeys m l =
      obeys completion_number _ _ (record { numbered = (refl, (refl, (refl, (refl, (refl, (refl, tt)))))); once = refl; nonzero = refl; zero = λ h. refl }) _
      refl

  -- The reason: numbers 1, 2, 15, 3 to 5, 7 and 8, or 0.
  pub reason_obeys : (x y sign : ℕ) (d l : List ℕ) → Obeys reason_number (reason_table o k ws set x y sign d l) (reason_done (chosen set ws) x y sign d l (o + k)) (reasoned o k ws set x y sign d l)
  reason_obeys x y sign d l =
      obeys reason_number _ _ (record { numbered = (refl, (refl, (refl, (refl, (refl, (refl, (refl, (refl, tt)))))))); once = refl; nonzero = refl; zero = λ h. refl }) _
      refl

  -- The reason check: numbers 1, 2, 15, 3 and 4, or 0.
  pub check_obeys : (x y sign : ℕ) (l : List ℕ) → Obeys verdict_number (check_table o k ws set x y sign) (check_done o k (chosen set ws) x y sign l) (verdict o k ws set x y sign l)
  check_obeys x y sign l =
      obeys verdict_number _ _ (record { numbered = (refl, (refl, (refl, (refl, (refl, tt))))); once = refl; nonzero = refl; zero = λ h. verdict_done (passes o k (chosen set ws) x y (sign_at sign) l) }) _
      refl

  -- The screenful: numbers 1, 2, 15, 3, 10 and 5, or 0.
  pub questions_obeys : (ps bs m : List ℕ) → Obeys questions_number (questions_table o k ws set ps bs m) (questions_done o (chosen set ws) ps bs m (o + k)) (questioned_all o k ws set ps bs m)
  questions_obeys ps bs m =
      obeys questions_number _ _ (record { numbered = (refl, (refl, (refl, (refl, (refl, (refl, tt)))))); once = refl; nonzero = refl; zero = λ h. refl }) _
      refl

  -- The valuation: numbers 1, 2, 15, 3, 5 and 13, or 0.
  pub valuation_obeys : (t m : List ℕ) → Obeys valuation_number (valuation_table o k ws set t m) (valuation_done (own_values o k (chosen set ws)) t m (o + k)) (filled_by o k ws set t m)
  valuation_obeys t m =
      obeys valuation_number _ _ (record { numbered = (refl, (refl, (refl, (refl, (refl, (refl, tt)))))); once = refl; nonzero = refl; zero = λ h. refl }) _
      refl

  -- The completion by rows: numbers 1, 2, 15, 3, 5 and 8, or 0.
  pub rows_obeys : (yeses noes l : List ℕ) → Obeys rows_number (rows_table o k ws set yeses noes l) (rows_done o k (chosen set ws) yeses noes l (o + k)) (completed_by_rows o k ws set yeses noes l)
  rows_obeys yeses noes l =
      obeys rows_number _ _ (record { numbered = (refl, (refl, (refl, (refl, (refl, (refl, tt)))))); once = refl; nonzero = refl; zero = λ h. refl }) _
      refl

  -- The proof: numbers 1, 2, 15, 3 to 5, 7, 11 and 8, or 0.
  pub proof_obeys : (x y sign : ℕ) (d l : List ℕ) → Obeys proof_number (proof_table o k ws set x y sign d l) (proof_done o (chosen set ws) x y sign d l (o + k)) (proved o k ws set x y sign d l)
  proof_obeys x y sign d l =
      obeys proof_number _ _ (record { numbered = (refl, (refl, (refl, (refl, (refl, (refl, (refl, (refl, (refl, tt))))))))); once = refl; nonzero = refl; zero = λ h. refl }) _
      refl

  -- The proof check: numbers 1, 2, 15, 3, 4 and 12, or 0.
  pub proof_check_obeys : (x y sign : ℕ) (l : List ℕ) → Obeys proof_check_number (judged_table o k ws set x y sign l) judged_done (judged o k ws set x y sign l)
  proof_check_obeys x y sign l =
      obeys proof_check_number _ _ (record { numbered = (refl, (refl, (refl, (refl, (refl, (refl, tt)))))); once = refl; nonzero = refl; zero = λ h. refl }) _
      refl

  -- The explanation: numbers 1, 2, 15, 3 to 5, 7 and 8, or 0.
  pub explanation_obeys : (x y sign : ℕ) (d m l : List ℕ)
      → Obeys explanation_number (explain_table o k ws set x y sign d m l) (explain_done (chosen set ws) (explaining o ws set x y sign (o + k)) x y sign d m l (o + k)) (explained o k ws set x y sign d m l)
  explanation_obeys x y sign d m l =
      obeys explanation_number _ _ (record { numbered = (refl, (refl, (refl, (refl, (refl, (refl, (refl, (roomless_number (reason_of (chosen set ws) x y sign (o + k)) (explaining o ws set x y sign (o + k)) (filled (chosen set ws) y sign d (o + k)) m l, tt)))))))); once = refl; nonzero = refl; zero = λ h. refl }) _
      refl

  -- The derivation check: numbers 1, 2, 15, 3 and 4, or 0.
  pub derivation_check_obeys : (x y sign : ℕ) (l : List ℕ) → Obeys verdict_number (check_table o k ws set x y sign) (lines_done o k set ws x y sign l) (lines_verdict o k ws set x y sign l)
  derivation_check_obeys x y sign l =
      obeys verdict_number _ _ (record { numbered = (refl, (refl, (refl, (refl, (refl, tt))))); once = refl; nonzero = refl; zero = λ h. verdict_done (accepts o k set ws x y (sign_at sign) l) }) _
      refl

  -- The marker unit: numbers 1, 2, 15, 3, 5, 16 and 6, or 0.
  pub unit_obeys : (program : List ℕ) (budget : ℕ) (m : List ℕ) → Obeys unit_number (unit_table o k ws set program budget m) (unit_done (chosen set ws) program budget m (o + k)) (simulated o k ws set program budget m)
  unit_obeys program budget m =
      obeys unit_number _ _ (record { numbered = (refl, (refl, (refl, (refl, (refl, (refl, (refl, tt))))))); once = refl; nonzero = refl; zero = λ h. refl }) _
      refl

-- The compaction: numbers 1 to 3 and 5, or 0.
pub compaction_obeys : (o k : ℕ) (ws m : List ℕ) → Obeys compaction_number (compaction_table o k ws m) (compaction_done (compacted o k ws) ws m (o + k)) (compacted_by o k ws m)
compaction_obeys o k ws m =
    obeys compaction_number _ _ (record { numbered = (refl, (refl, (refl, (refl, tt)))); once = refl; nonzero = refl; zero = λ h. refl }) _
    refl

-- Mending: numbers 1 to 3, 5 and 8, or 0.
pub mending_obeys : (o k : ℕ) (ws kept dropped m : List ℕ)
    → Obeys mending_number (mending_table o k ws kept dropped m) (mending_done (kept_from o k [] ws) (dropped_from o k [] ws) kept dropped m (o + k)) (mended_by o k ws kept dropped m)
mending_obeys o k ws kept dropped m =
    obeys mending_number _ _ (record { numbered = (refl, (refl, (refl, (refl, (refl, tt))))); once = refl; nonzero = refl; zero = λ h. refl }) _
    refl

-- The test of a statement in a valuation: numbers 1, 4 and 13, or 0.
pub satisfies_obeys : (o k : ℕ) (t : List ℕ) (x y sign : ℕ) → Obeys satisfies_number (satisfies_table o k t x y sign) (satisfies_done o k t x y sign) (tested_by o k t x y sign)
satisfies_obeys o k t x y sign =
    obeys satisfies_number _ _ (record { numbered = (refl, (refl, (refl, tt))); once = refl; nonzero = refl; zero = λ h. tested_done (satisfies o k t x y (sign_at sign)) }) _
    refl

-- The question of rows: numbers 1, 4 and 5, or 0.
pub answer_in_rows_obeys : (o k : ℕ) (yeses noes : List ℕ) (x y : ℕ)
    → Obeys answer_in_rows_number (answer_table o k yeses noes x y) (Ok (answer_in_rows (o + k) yeses noes x y)) (answered_in_rows o k yeses noes x y)
answer_in_rows_obeys o k yeses noes x y =
    obeys answer_in_rows_number _ _ (record { numbered = (refl, (refl, (refl, tt))); once = refl; nonzero = refl; zero = λ h. refl }) _
    refl

-- The file reader: 9, or 0.
pub file_obeys : (s : List ℕ) → Obeys file_number (file_table s) (file_done s) (read_from s)
file_obeys s =
    obeys file_number _ _ (record { numbered = (refl, tt); once = refl; nonzero = refl; zero = λ h. refl }) _
    (file_called s)

-- Our engine keeps demand 1.
pub demand_1 : Demand1 ours
demand_1 = record {
  word_check = word_obeys;
  net_check = net_obeys;
  scan = scan_obeys;
  question = question_obeys;
  clash_test = clash_obeys;
  completion = completion_obeys;
  reason = reason_obeys;
  reason_check = check_obeys;
  questions = questions_obeys;
  compaction = compaction_obeys;
  mending = mending_obeys;
  valuation = valuation_obeys;
  satisfies = satisfies_obeys;
  completion_by_rows = rows_obeys;
  answer_in_rows = answer_in_rows_obeys;
  proof = proof_obeys;
  proof_check = proof_check_obeys;
  unit = unit_obeys;
  explanation = explanation_obeys;
  derivation_check = derivation_check_obeys;
}
