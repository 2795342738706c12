-- How tight the exported statements are: two structs that both satisfy one function's statement are the same, and so is what is left in each buffer.
use Prim.Native.Nat.{ℕ}
use mathlib.Core.Path.{◌≡◌, sym, ◌∙◌}
use mathlib.Core.List.{List}
use Rattle.net.specs.Table.{Reply, check_net, checked_reply}
use Rattle.check_word.specs.Table.{check_word, word_reply}
use Rattle.scan.specs.Table.{scanned, scan_reply}
use Rattle.question.specs.Table.{questioned, asked_reply}
use Rattle.questions.specs.Table.{questioned_all, asked_all_reply}
use Rattle.clash.specs.Table.{clashed_by, clashed_reply}
use Rattle.completion.specs.Table.{completed_by, completed_reply}
use Rattle.compact.specs.Table.{compacted_by, compacted_reply}
use Rattle.mend.specs.Table.{mended_by, mended_reply}
use Rattle.reason.specs.Table.{reasoned, reasoned_reply}
use Rattle.reason_check.specs.Table.{verdict, verdict_reply}
use Rattle.explain.specs.Table.{explained, explained_reply}
use Rattle.derivation_check.specs.Table.{lines_verdict}
use Rattle.proof.specs.Table.{proved, proved_reply}
use Rattle.proof_check.specs.Table.{judged, judged_reply}
use Rattle.unit.specs.Table.{simulated, simulated_reply}
use Rattle.valuation.specs.Table.{filled_by, filled_reply}
use Rattle.satisfies.specs.Table.{tested_by, tested_reply}
use Rattle.rows_completion.specs.Table.{completed_by_rows}
use Rattle.rows_answer.specs.Table.{answered_in_rows, answered_reply}

-- The structs r and q that a statement lets a call give, where s is its reply.
module _ {s : Reply} (r q : Reply) where
  -- A statement about the struct alone.
  gives_one : r ≡ s → q ≡ s → r ≡ q
  gives_one e f = e ∙ sym f

  -- About one buffer besides, left as m and as l; about two, the second left as c and as d; and about three, the third left as a and as b.
  leaves_one : {t : List ℕ} (m l : List ℕ) → (r ≡ s) × (m ≡ t) → (q ≡ s) × (l ≡ t) → (r ≡ q) × (m ≡ l)
  leaves_one m l e f = (gives_one e.0 f.0, e.1 ∙ sym f.1)

  leaves_two : {t u : List ℕ} (m l c d : List ℕ) → (r ≡ s) × (m ≡ t) × (c ≡ u) → (q ≡ s) × (l ≡ t) × (d ≡ u) → (r ≡ q) × (m ≡ l) × (c ≡ d)
  leaves_two m l c d e f = (gives_one e.0 f.0, e.1 ∙ sym f.1, e.2 ∙ sym f.2)

  leaves_three : {t u v : List ℕ} (m l c d a b : List ℕ) → (r ≡ s) × (m ≡ t) × (c ≡ u) × (a ≡ v) → (q ≡ s) × (l ≡ t) × (d ≡ u) × (b ≡ v) → (r ≡ q) × (m ≡ l) × (c ≡ d) × (a ≡ b)
  leaves_three m l c d a b e f = (gives_one e.0 f.0, e.1 ∙ sym f.1, e.2 ∙ sym f.2, e.3 ∙ sym f.3)

-- `strumelka_check_word`.
pub given_check_word_unique : (o k w : ℕ) (r q : Reply) → r ≡ word_reply (check_word o k w) → q ≡ word_reply (check_word o k w) → r ≡ q
given_check_word_unique o k w r q = gives_one r q

-- `strumelka_satisfies`.
pub given_satisfies_unique : (o k : ℕ) (table : List ℕ) (x y sign : ℕ) (r q : Reply) → r ≡ tested_reply (tested_by o k table x y sign) → q ≡ tested_reply (tested_by o k table x y sign) → r ≡ q
given_satisfies_unique o k table x y sign r q = gives_one r q

-- `strumelka_answer_in_rows`.
pub given_answer_in_rows_unique : (o k : ℕ) (yeses noes : List ℕ) (x y : ℕ) (r q : Reply) → r ≡ answered_reply (answered_in_rows o k yeses noes x y) → q ≡ answered_reply (answered_in_rows o k yeses noes x y) → r ≡ q
given_answer_in_rows_unique o k yeses noes x y r q = gives_one r q

module _ (o k : ℕ) (ws : List ℕ) (set : ℕ) (r q : Reply) where
  -- `strumelka_check_net`.
  pub given_check_net_unique : r ≡ checked_reply (check_net o k ws set) → q ≡ checked_reply (check_net o k ws set) → r ≡ q
  given_check_net_unique = gives_one r q

  -- `strumelka_reason_check`.
  pub given_reason_check_unique : (x y sign : ℕ) (list : List ℕ) → r ≡ verdict_reply (verdict o k ws set x y sign list) → q ≡ verdict_reply (verdict o k ws set x y sign list) → r ≡ q
  given_reason_check_unique x y sign list = gives_one r q

  -- `strumelka_derivation_check`.
  pub given_derivation_check_unique : (x y sign : ℕ) (list : List ℕ) → r ≡ verdict_reply (lines_verdict o k ws set x y sign list) → q ≡ verdict_reply (lines_verdict o k ws set x y sign list) → r ≡ q
  given_derivation_check_unique x y sign list = gives_one r q

  -- `strumelka_proof_check`.
  pub given_proof_check_unique : (x y sign : ℕ) (list : List ℕ) → r ≡ judged_reply (judged o k ws set x y sign list) → q ≡ judged_reply (judged o k ws set x y sign list) → r ≡ q
  given_proof_check_unique x y sign list = gives_one r q

  module _ (marks m l : List ℕ) where
    -- `strumelka_scan`.
    pub given_scan_unique : (x budget : ℕ)
        → (r ≡ scan_reply (scanned o k ws set x budget marks).answer) × (m ≡ (scanned o k ws set x budget marks).marks)
        → (q ≡ scan_reply (scanned o k ws set x budget marks).answer) × (l ≡ (scanned o k ws set x budget marks).marks) → (r ≡ q) × (m ≡ l)
    given_scan_unique x budget = leaves_one r q m l

    -- `strumelka_unit`.
    pub given_unit_unique : (program : List ℕ) (budget : ℕ)
        → (r ≡ simulated_reply (simulated o k ws set program budget marks).answer) × (m ≡ (simulated o k ws set program budget marks).marks)
        → (q ≡ simulated_reply (simulated o k ws set program budget marks).answer) × (l ≡ (simulated o k ws set program budget marks).marks) → (r ≡ q) × (m ≡ l)
    given_unit_unique program budget = leaves_one r q m l

    -- `strumelka_question`.
    pub given_question_unique : (x y : ℕ)
        → (r ≡ asked_reply (questioned o k ws set x y marks).answer) × (m ≡ (questioned o k ws set x y marks).marks)
        → (q ≡ asked_reply (questioned o k ws set x y marks).answer) × (l ≡ (questioned o k ws set x y marks).marks) → (r ≡ q) × (m ≡ l)
    given_question_unique x y = leaves_one r q m l

    -- `strumelka_questions`: c and d the bytes left.
    pub given_questions_unique : (pairs answers c d : List ℕ)
        → (r ≡ asked_all_reply (questioned_all o k ws set pairs answers marks).answer) × (c ≡ (questioned_all o k ws set pairs answers marks).answers) × (m ≡ (questioned_all o k ws set pairs answers marks).marks)
        → (q ≡ asked_all_reply (questioned_all o k ws set pairs answers marks).answer) × (d ≡ (questioned_all o k ws set pairs answers marks).answers) × (l ≡ (questioned_all o k ws set pairs answers marks).marks)
        → (r ≡ q) × (c ≡ d) × (m ≡ l)
    given_questions_unique pairs answers c d = leaves_two r q c d m l

    -- `strumelka_clash`.
    pub given_clash_unique : (r ≡ clashed_reply (clashed_by o k ws set marks).answer) × (m ≡ (clashed_by o k ws set marks).marks)
        → (q ≡ clashed_reply (clashed_by o k ws set marks).answer) × (l ≡ (clashed_by o k ws set marks).marks) → (r ≡ q) × (m ≡ l)
    given_clash_unique = leaves_one r q m l

    -- `strumelka_completion`: c and d the lists left.
    pub given_completion_unique : (list c d : List ℕ)
        → (r ≡ completed_reply (completed_by o k ws set marks list).answer) × (m ≡ (completed_by o k ws set marks list).marks) × (c ≡ (completed_by o k ws set marks list).list)
        → (q ≡ completed_reply (completed_by o k ws set marks list).answer) × (l ≡ (completed_by o k ws set marks list).marks) × (d ≡ (completed_by o k ws set marks list).list)
        → (r ≡ q) × (m ≡ l) × (c ≡ d)
    given_completion_unique list c d = leaves_two r q m l c d

  -- `strumelka_reason`: m and l the scratches, c and d the lists left.
  pub given_reason_unique : (x y sign : ℕ) (scratch list m l c d : List ℕ)
      → (r ≡ reasoned_reply (reasoned o k ws set x y sign scratch list).answer) × (m ≡ (reasoned o k ws set x y sign scratch list).scratch) × (c ≡ (reasoned o k ws set x y sign scratch list).list)
      → (q ≡ reasoned_reply (reasoned o k ws set x y sign scratch list).answer) × (l ≡ (reasoned o k ws set x y sign scratch list).scratch) × (d ≡ (reasoned o k ws set x y sign scratch list).list)
      → (r ≡ q) × (m ≡ l) × (c ≡ d)
  given_reason_unique x y sign scratch list m l c d = leaves_two r q m l c d

  -- `strumelka_explain`: m and l the scratches, c and d the reasons, a and b the lists of lines left.
  pub given_explain_unique : (x y sign : ℕ) (scratch reason lines m l c d a b : List ℕ)
      → (r ≡ explained_reply (explained o k ws set x y sign scratch reason lines).answer) × (m ≡ (explained o k ws set x y sign scratch reason lines).scratch)
      × (c ≡ (explained o k ws set x y sign scratch reason lines).list) × (a ≡ (explained o k ws set x y sign scratch reason lines).lines)
      → (q ≡ explained_reply (explained o k ws set x y sign scratch reason lines).answer) × (l ≡ (explained o k ws set x y sign scratch reason lines).scratch)
      × (d ≡ (explained o k ws set x y sign scratch reason lines).list) × (b ≡ (explained o k ws set x y sign scratch reason lines).lines)
      → (r ≡ q) × (m ≡ l) × (c ≡ d) × (a ≡ b)
  given_explain_unique x y sign scratch reason lines m l c d a b = leaves_three r q m l c d a b

  -- `strumelka_proof`: m and l the scratches, c and d the lists left.
  pub given_proof_unique : (x y sign : ℕ) (scratch list m l c d : List ℕ)
      → (r ≡ proved_reply (proved o k ws set x y sign scratch list).answer) × (m ≡ (proved o k ws set x y sign scratch list).scratch) × (c ≡ (proved o k ws set x y sign scratch list).list)
      → (q ≡ proved_reply (proved o k ws set x y sign scratch list).answer) × (l ≡ (proved o k ws set x y sign scratch list).scratch) × (d ≡ (proved o k ws set x y sign scratch list).list)
      → (r ≡ q) × (m ≡ l) × (c ≡ d)
  given_proof_unique x y sign scratch list m l c d = leaves_two r q m l c d

  -- `strumelka_valuation`: m and l the tables, c and d the marks left.
  pub given_valuation_unique : (table marks m l c d : List ℕ)
      → (r ≡ filled_reply (filled_by o k ws set table marks).answer) × (m ≡ (filled_by o k ws set table marks).table) × (c ≡ (filled_by o k ws set table marks).marks)
      → (q ≡ filled_reply (filled_by o k ws set table marks).answer) × (l ≡ (filled_by o k ws set table marks).table) × (d ≡ (filled_by o k ws set table marks).marks)
      → (r ≡ q) × (m ≡ l) × (c ≡ d)
  given_valuation_unique table marks m l c d = leaves_two r q m l c d

  -- `strumelka_completion_by_rows`: m and l the yes rows, c and d the no rows, a and b the lists left.
  pub given_completion_by_rows_unique : (yeses noes list m l c d a b : List ℕ)
      → (r ≡ completed_reply (completed_by_rows o k ws set yeses noes list).answer) × (m ≡ (completed_by_rows o k ws set yeses noes list).yeses)
      × (c ≡ (completed_by_rows o k ws set yeses noes list).noes) × (a ≡ (completed_by_rows o k ws set yeses noes list).list)
      → (q ≡ completed_reply (completed_by_rows o k ws set yeses noes list).answer) × (l ≡ (completed_by_rows o k ws set yeses noes list).yeses)
      × (d ≡ (completed_by_rows o k ws set yeses noes list).noes) × (b ≡ (completed_by_rows o k ws set yeses noes list).list)
      → (r ≡ q) × (m ≡ l) × (c ≡ d) × (a ≡ b)
  given_completion_by_rows_unique yeses noes list m l c d a b = leaves_three r q m l c d a b

-- `strumelka_compact`: m and l the lists, c and d the marks left.
pub given_compact_unique : (o k : ℕ) (list marks : List ℕ) (r q : Reply) (m l c d : List ℕ)
    → (r ≡ compacted_reply (compacted_by o k list marks).answer) × (m ≡ (compacted_by o k list marks).list) × (c ≡ (compacted_by o k list marks).marks)
    → (q ≡ compacted_reply (compacted_by o k list marks).answer) × (l ≡ (compacted_by o k list marks).list) × (d ≡ (compacted_by o k list marks).marks)
    → (r ≡ q) × (m ≡ l) × (c ≡ d)
given_compact_unique o k list marks r q m l c d = leaves_two r q m l c d

-- `strumelka_mend`: m and l the lists of kept words, c and d those of dropped words, a and b the marks left.
pub given_mend_unique : (o k : ℕ) (ws kept dropped marks : List ℕ) (r q : Reply) (m l c d a b : List ℕ)
    → (r ≡ mended_reply (mended_by o k ws kept dropped marks).answer) × (m ≡ (mended_by o k ws kept dropped marks).kept)
    × (c ≡ (mended_by o k ws kept dropped marks).dropped) × (a ≡ (mended_by o k ws kept dropped marks).marks)
    → (q ≡ mended_reply (mended_by o k ws kept dropped marks).answer) × (l ≡ (mended_by o k ws kept dropped marks).kept)
    × (d ≡ (mended_by o k ws kept dropped marks).dropped) × (b ≡ (mended_by o k ws kept dropped marks).marks)
    → (r ≡ q) × (m ≡ l) × (c ≡ d) × (a ≡ b)
given_mend_unique o k ws kept dropped marks r q m l c d a b = leaves_three r q m l c d a b
