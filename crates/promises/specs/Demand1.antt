-- Demand 1: whatever numbers and buffers it is lent, each operation on a word, a net, a table or rows gives the number that is due by its table and
-- leaves each buffer as that clause says.
use Rattle.std.specs.Prelude.{ℕ, ◌+◌, List, [], Ok}
use Rattle.promises.specs.Tables.{Obeys}
use Rattle.net.specs.Table.{net_table, net_done}
use Rattle.check_word.specs.Table.{word_table}
use Rattle.scan.specs.Table.{scan_table, scan_done}
use Rattle.question.specs.Table.{question_table, question_done}
use Rattle.questions.specs.Table.{questions_table, questions_done}
use Rattle.theory.specs.Completion.{complete}
use Rattle.theory.specs.Origins.{chosen}
use Rattle.theory.specs.Compaction.{compacted}
use Rattle.theory.specs.Mending.{kept_from, dropped_from}
use Rattle.clash.specs.Table.{clash_search, clash_table, clash_done}
use Rattle.completion.specs.Table.{completion_table, completion_done}
use Rattle.compact.specs.Table.{compaction_table, compaction_done}
use Rattle.mend.specs.Table.{mending_table, mending_done}
use Rattle.reason.specs.Table.{reason_table, reason_done}
use Rattle.reason_check.specs.Table.{check_table, check_done}
use Rattle.proof.specs.Table.{proof_table, proof_done}
use Rattle.proof_check.specs.Table.{judged_table, judged_done}
use Rattle.explain.specs.Table.{explaining, explain_table, explain_done}
use Rattle.derivation_check.specs.Table.{lines_done}
use Rattle.unit.specs.Table.{unit_table, unit_done}
use Rattle.valuation.specs.Values.{own_values}
use Rattle.valuation.specs.Table.{valuation_table, valuation_done}
use Rattle.satisfies.specs.Table.{satisfies_table, satisfies_done}
use Rattle.rows_completion.specs.Table.{rows_table, rows_done}
use Rattle.rows_answer.specs.Table.{answer_in_rows, answer_table}
use Rattle.promises.specs.Numbers.{word_number, checked_number, scan_number, question_number, clash_number, completion_number, reason_number, verdict_number, questions_number, compaction_number, mending_number, valuation_number, satisfies_number, rows_number, answer_in_rows_number, proof_number, proof_check_number, unit_number, explanation_number}
use Rattle.promises.specs.Engines.{Engine}

pub record Demand1 (e : Engine) : Type 0 where
  pub word_check : (o k w : ℕ) → Obeys word_number (word_table o k w) (Ok tt) (e.word_check o k w)
  pub net_check : (o k : ℕ) (ws : List ℕ) (set : ℕ) → Obeys checked_number (net_table o k ws set) (net_done o k) (e.net_check o k ws set)
  pub scan : (o k : ℕ) (ws : List ℕ) (set x budget : ℕ) (m : List ℕ)
      → Obeys scan_number (scan_table o k ws set x budget m) (scan_done (chosen set ws) x budget m (o + k)) (e.scan o k ws set x budget m)
  pub question : (o k : ℕ) (ws : List ℕ) (set x y : ℕ) (m : List ℕ)
      → Obeys question_number (question_table o k ws set x y m) (question_done (chosen set ws) x y m (o + k)) (e.question o k ws set x y m)
  pub clash_test : (o k : ℕ) (ws : List ℕ) (set : ℕ) (m : List ℕ)
      → Obeys clash_number (clash_table o k ws set m) (clash_done (clash_search o k (chosen set ws)) m (o + k)) (e.clash_test o k ws set m)
  pub completion : (o k : ℕ) (ws : List ℕ) (set : ℕ) (m l : List ℕ)
      → Obeys completion_number (completion_table o k ws set m l) (completion_done (complete o k (chosen set ws)) m l (o + k)) (e.completion o k ws set m l)
  pub reason : (o k : ℕ) (ws : List ℕ) (set x y sign : ℕ) (d l : List ℕ)
      → Obeys reason_number (reason_table o k ws set x y sign d l) (reason_done (chosen set ws) x y sign d l (o + k)) (e.reason o k ws set x y sign d l)
  pub reason_check : (o k : ℕ) (ws : List ℕ) (set x y sign : ℕ) (l : List ℕ)
      → Obeys verdict_number (check_table o k ws set x y sign) (check_done o k (chosen set ws) x y sign l) (e.reason_check o k ws set x y sign l)
  pub questions : (o k : ℕ) (ws : List ℕ) (set : ℕ) (ps bs m : List ℕ)
      → Obeys questions_number (questions_table o k ws set ps bs m) (questions_done o (chosen set ws) ps bs m (o + k)) (e.questions o k ws set ps bs m)
  pub compaction : (o k : ℕ) (ws m : List ℕ) → Obeys compaction_number (compaction_table o k ws m) (compaction_done (compacted o k ws) ws m (o + k)) (e.compaction o k ws m)
  pub mending : (o k : ℕ) (ws kept dropped m : List ℕ)
      → Obeys mending_number (mending_table o k ws kept dropped m) (mending_done (kept_from o k [] ws) (dropped_from o k [] ws) kept dropped m (o + k)) (e.mending o k ws kept dropped m)
  pub valuation : (o k : ℕ) (ws : List ℕ) (set : ℕ) (t m : List ℕ)
      → Obeys valuation_number (valuation_table o k ws set t m) (valuation_done (own_values o k (chosen set ws)) t m (o + k)) (e.valuation o k ws set t m)
  pub satisfies : (o k : ℕ) (t : List ℕ) (x y sign : ℕ) → Obeys satisfies_number (satisfies_table o k t x y sign) (satisfies_done o k t x y sign) (e.satisfies o k t x y sign)
  pub completion_by_rows : (o k : ℕ) (ws : List ℕ) (set : ℕ) (yeses noes l : List ℕ)
      → Obeys rows_number (rows_table o k ws set yeses noes l) (rows_done o k (chosen set ws) yeses noes l (o + k)) (e.completion_by_rows o k ws set yeses noes l)
  pub answer_in_rows : (o k : ℕ) (yeses noes : List ℕ) (x y : ℕ)
      → Obeys answer_in_rows_number (answer_table o k yeses noes x y) (Ok (answer_in_rows (o + k) yeses noes x y)) (e.answer_in_rows o k yeses noes x y)
  pub proof : (o k : ℕ) (ws : List ℕ) (set x y sign : ℕ) (d l : List ℕ)
      → Obeys proof_number (proof_table o k ws set x y sign d l) (proof_done o (chosen set ws) x y sign d l (o + k)) (e.proof o k ws set x y sign d l)
  pub proof_check : (o k : ℕ) (ws : List ℕ) (set x y sign : ℕ) (l : List ℕ)
      → Obeys proof_check_number (judged_table o k ws set x y sign l) judged_done (e.proof_check o k ws set x y sign l)
  pub unit : (o k : ℕ) (ws : List ℕ) (set : ℕ) (program : List ℕ) (budget : ℕ) (m : List ℕ)
      → Obeys unit_number (unit_table o k ws set program budget m) (unit_done (chosen set ws) program budget m (o + k)) (e.unit o k ws set program budget m)
  pub explanation : (o k : ℕ) (ws : List ℕ) (set x y sign : ℕ) (d m l : List ℕ)
      → Obeys explanation_number (explain_table o k ws set x y sign d m l) (explain_done (chosen set ws) (explaining o ws set x y sign (o + k)) x y sign d m l (o + k)) (e.explanation o k ws set x y sign d m l)
  pub derivation_check : (o k : ℕ) (ws : List ℕ) (set x y sign : ℕ) (l : List ℕ)
      → Obeys verdict_number (check_table o k ws set x y sign) (lines_done o k set ws x y sign l) (e.derivation_check o k ws set x y sign l)
