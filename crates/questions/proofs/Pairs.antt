-- The bytes and the marks of pairs, in the terms of a loop that has come to pair i.
use Rattle.std.specs.Prelude.{Err}
use Prim.Native.Nat.{ℕ, zero, suc, ◌+◌, ◌-◌, ◌<◌, ◌≤◌}
use mathlib.Core.Path.{◌≡◌, refl, sym, ap, ◌∙◌}
use mathlib.Core.Bool.{Bool, true, false, cond}
use mathlib.Core.List.{List, [], ◌∷◌, ◌++◌}
use native.Mathlib.Omega.{arith}
use native.Mathlib.Numerals.{add-one}
use borrow.Author.Tests.{le-ltb}
use lib.ListN.{length, get_or, set, drop}
use Rattle.theory_laws.specs.Over.{over}
use Rattle.theory_laws.proofs.Over.{over_one}
use Rattle.theory.specs.Scans.{full_scan}
use Rattle.net.specs.Clauses.{call}
use Rattle.net.specs.Table.{bad_pair}
use Rattle.net.specs.declared.Refusal.TheVariants.{BadQuestion}
use Rattle.question.specs.Table.{QuestionOutcome, question_outcome, question_clauses, question_done, read_at, answer_at, answer_number}
use Rattle.question.specs.Table.{Asked}
use Rattle.questions.specs.Pairs.{subject_at, kind_at}
use Rattle.questions.specs.Table.{asked_byte, answer_byte, marks_after, answers_from, marks_from}

-- What a single question with room for its marks gives and leaves.
module _ (o n : ℕ) (ws : List ℕ) (x y : ℕ) (m : List ℕ) (room : n ≤ length m) where
  tested : (bad : Bool)
      → let q = cond bad (question_outcome (Err BadQuestion) m) (read_at y (full_scan n ws x) (drop n m)) in
      (asked_byte q.answer ≡ cond bad 255 (answer_number (answer_at (get_or (full_scan n ws x).marks y 0)))) × (q.marks ≡ cond bad m ((full_scan n ws x).marks ++ drop n m))
  tested true = (refl, refl)
  tested false = (refl, refl)

  -- Its byte, and the marks after it.
  pub single : let q = call (question_clauses o x y m n) (question_done ws x y m n) in (asked_byte q.answer ≡ answer_byte o n ws x y) × (q.marks ≡ marks_after o n ws x y m)
  single = rw (le-ltb (length m) n room) (tested (bad_pair o n x y))

  -- So of what the code was answered, and the marks that it was left with.
  pub pair_left : {a : Asked} {m' : List ℕ} → question_outcome a m' ≡ call (question_clauses o x y m n) (question_done ws x y m n)
      → (asked_byte a ≡ answer_byte o n ws x y) × (m' ≡ marks_after o n ws x y m)
  pair_left e = (ap (λ (q : QuestionOutcome). asked_byte q.answer) e ∙ single.0, ap (λ (q : QuestionOutcome). q.marks) e ∙ single.1)

module _ (o n : ℕ) (ws ps : List ℕ) where
  -- The byte of pair i.
  abbrev byte_of : ℕ → ℕ
  byte_of i = answer_byte o n ws (subject_at ps i) (kind_at ps i)

  pub answers_long : (i j : ℕ) → length (answers_from o n ws ps i j) ≡ j
  unfolding answers_from
  answers_long i zero = refl
  answers_long i (suc j) = ap suc (answers_long (suc i) j)

  -- One byte more.
  answers_more : (i j : ℕ) → answers_from o n ws ps i (suc j) ≡ answers_from o n ws ps i j ++ byte_of (i + j) ∷ []
  unfolding answers_from
  answers_more i zero =
      let e : i ≡ i + 0 = omega arith in
      ap (λ (v : ℕ). byte_of v ∷ []) e
  answers_more i (suc j) =
      let e : suc i + j ≡ i + suc j = omega arith in
      ap (λ (l : List ℕ). byte_of i ∷ l) (answers_more (suc i) j ∙ ap (λ (v : ℕ). answers_from o n ws ps (suc i) j ++ byte_of v ∷ []) e)

  -- No byte at first, and all of them at the end.
  pub bytes_none : (bs : List ℕ) → bs ≡ over (answers_from o n ws ps 0 0) bs
  unfolding answers_from
  bytes_none bs = refl

  pub bytes_all : (bs : List ℕ) {i end : ℕ} → i ≡ end → over (answers_from o n ws ps 0 i) bs ≡ over (answers_from o n ws ps 0 end) bs
  bytes_all bs e = ap (λ (j : ℕ). over (answers_from o n ws ps 0 j) bs) e

  -- One byte more, stored behind those before it.
  pub byte_stored : (bs xs : List ℕ) (i b : ℕ) → xs ≡ over (answers_from o n ws ps 0 i) bs → i < length bs → b ≡ byte_of i → set xs i b ≡ over (answers_from o n ws ps 0 (i + 1)) bs
  byte_stored bs xs i b e h f =
      let z : i ≡ 0 + i = omega arith in
      let more : answers_from o n ws ps 0 i ++ byte_of i ∷ [] ≡ answers_from o n ws ps 0 (suc i) = ap (λ (v : ℕ). answers_from o n ws ps 0 i ++ byte_of v ∷ []) z ∙ sym (answers_more 0 i) in
      rw (add-one i, e, f) (over_one (answers_from o n ws ps 0 i) bs (byte_of i) i (answers_long 0 i) h ∙ ap (λ (l : List ℕ). over l bs) more)

  -- The marks, where the loop runs to the number `end`.
  module _ (end : ℕ) where
    pub marks_whole : (m : List ℕ) → marks_from o n ws ps 0 end m ≡ marks_from o n ws ps 0 (end - 0) m
    marks_whole m = let e : end ≡ end - 0 = omega arith in ap (λ (j : ℕ). marks_from o n ws ps 0 j m) e

    module _ (i : ℕ) where
      pub marks_go : (m m' : List ℕ) → i < end → m' ≡ marks_after o n ws (subject_at ps i) (kind_at ps i) m → marks_from o n ws ps i (end - i) m ≡ marks_from o n ws ps (i + 1) (end - (i + 1)) m'
      unfolding marks_from
      marks_go m m' h e =
          let f : end - i ≡ suc (end - suc i) = omega arith in
          rw (add-one i, f, e)

      pub marks_end : (m : List ℕ) → end ≤ i → marks_from o n ws ps i (end - i) m ≡ m
      unfolding marks_from
      marks_end m h =
          let f : end - i ≡ 0 = omega arith in
          rw f
