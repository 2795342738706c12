-- What a question answers depends on the lent marks by their number alone, so that one list of marks serves all questions.
use Rattle.std.specs.Prelude.{Err, Ok}
use Prim.Native.Nat.{ℕ}
use mathlib.Core.Path.{◌≡◌, refl, sym, ap, ◌∙◌}
use mathlib.Core.Bool.{Bool, true, false, cond}
use mathlib.Core.List.{List}
use lib.Dec.{ltb}
use lib.ListN.{length, drop, length-replicate}
use Rattle.theory.specs.Marks.{blank}
use Rattle.theory.specs.Scans.{Scan, full_scan}
use Rattle.theory.specs.Origins.{chosen}
use Rattle.net.specs.Clauses.{call}
use Rattle.net.specs.Table.{check_net, bad_pair}
use Rattle.net.specs.declared.Refusal.TheVariants.{BadQuestion, ShortBuffer}
use Rattle.net.specs.Table.{Checked}
use Rattle.net.proofs.OnNet.{by_check, on_net, gone_on}
use Rattle.question.specs.Table.{QuestionOutcome, question_outcome, read_at, question_clauses, question_done, questioned}
use Rattle.question.specs.Table.{Asked}

module _ (o k : ℕ) (ws : List ℕ) (set x y : ℕ) (m m' : List ℕ) (e : length m ≡ length m') where
  as_tested : (n : ℕ) (s : Scan) (bad short : Bool)
      → (cond bad (question_outcome (Err BadQuestion) m) (cond short (question_outcome (Err ShortBuffer) m) (read_at y s (drop n m)))).answer
      ≡ (cond bad (question_outcome (Err BadQuestion) m') (cond short (question_outcome (Err ShortBuffer) m') (read_at y s (drop n m')))).answer
  as_tested n s true short = refl
  as_tested n s false true = refl
  as_tested n s false false = refl

  -- What a question gives with some marks, by the answer of the check.
  abbrev after : List ℕ → Checked → QuestionOutcome
  after l = by_check (λ r. question_outcome (Err r) l) (question_clauses o x y l) (question_done (chosen set ws) x y l)

  same_for : (c : Checked) → (after m c).answer ≡ (after m' c).answer
  same_for (Ok n) = rw e (as_tested n (full_scan n (chosen set ws) x) (bad_pair o n x y) (ltb (length m') n))
  same_for (Err r) = refl

  -- As many marks, the same answer.
  same_answer : (questioned o k ws set x y m).answer ≡ (questioned o k ws set x y m').answer
  same_answer =
      ap (λ (q : QuestionOutcome). q.answer) (sym (on_net (λ r. question_outcome (Err r) m) o k ws set (question_clauses o x y m) (question_done (chosen set ws) x y m)))
      ∙ same_for (check_net o k ws set)
      ∙ ap (λ (q : QuestionOutcome). q.answer) (on_net (λ r. question_outcome (Err r) m') o k ws set (question_clauses o x y m') (question_done (chosen set ws) x y m'))

-- So 1,024 marks answer as blank ones do.
asked_blank : (o k : ℕ) (ws : List ℕ) (set x y : ℕ) (m : List ℕ) {r : Asked} {left : List ℕ} → length m ≡ 1024
    → question_outcome r left ≡ questioned o k ws set x y m → r ≡ (questioned o k ws set x y (blank 1024)).answer
asked_blank o k ws set x y m e f =
    ap (λ (q : QuestionOutcome). q.answer) f ∙ same_answer o k ws set x y m (blank 1024) (e ∙ sym (length-replicate {A = ℕ} 1024 0))

-- The same of a question on a net that was checked.
pub asked_checked : (o k n : ℕ) (ws : List ℕ) (set x y : ℕ) (m : List ℕ) {r : Asked} {left : List ℕ} → check_net o k ws set ≡ Ok n → length m ≡ 1024
    → question_outcome r left ≡ call (question_clauses o x y m n) (question_done (chosen set ws) x y m n) → r ≡ (questioned o k ws set x y (blank 1024)).answer
asked_checked o k n ws set x y m c e f =
    asked_blank o k ws set x y m e (gone_on (λ r. question_outcome (Err r) m) o k ws set (question_clauses o x y m) (question_done (chosen set ws) x y m) c f)
