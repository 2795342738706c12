-- Each outcome of a question, in the terms of the code.
use Rattle.std.specs.Prelude.{Err, Ok}
use Prim.Native.Nat.{ℕ, ◌<◌, ◌≤◌}
use mathlib.Core.Path.{◌≡◌, sym, ap, ◌∙◌}
use mathlib.Core.Bool.{true, false}
use mathlib.Core.List.{List, ◌++◌}
use borrow.Author.Tests.{lt-ltb, le-ltb}
use lib.ListN.{length, get_or, take, drop, take-append-drop}
use lib.Seq.{get_or-take}
use Rattle.theory.specs.Scans.{full_scan}
use Rattle.net.specs.Clauses.{call}
use Rattle.net.specs.Table.{bad_pair}
use Rattle.net.specs.declared.Refusal.TheVariants.{BadQuestion, ShortBuffer}
use Rattle.net.proofs.Good.{good_pair}
use Rattle.question.specs.Table.{answer_at, question_outcome, question_clauses, question_done}
use Rattle.question.specs.declared.Answer.{Answer}

module _ (o n : ℕ) (ws : List ℕ) (x y : ℕ) (m : List ℕ) where
  -- Number 4.
  pub ask_bad : bad_pair o n x y ≡ true → question_outcome (Err BadQuestion) m ≡ call (question_clauses o x y m n) (question_done ws x y m n)
  ask_bad h = rw h

  -- Number 5.
  pub ask_short : bad_pair o n x y ≡ false → length m < n → question_outcome (Err ShortBuffer) m ≡ call (question_clauses o x y m n) (question_done ws x y m n)
  ask_short g h = rw (g, lt-ltb (length m) n h)

  -- Number 0: the code scanned, was left with the marks m', and read y's byte there.
  pub ask_done : bad_pair o n x y ≡ false → n ≤ length m → (m' : List ℕ) (count : ℕ) (a : Answer) → count ≡ (full_scan n ws x).count
      → take n m' ≡ (full_scan n ws x).marks → drop n m' ≡ drop n m → a ≡ answer_at (get_or m' y 0)
      → question_outcome (Ok (a, count)) m' ≡ call (question_clauses o x y m n) (question_done ws x y m n)
  ask_done g h m' count a c l p r =
      let same : get_or m' y 0 ≡ get_or (full_scan n ws x).marks y 0 = sym (get_or-take n m' y 0 ((good_pair o n x y).0 g).high) ∙ ap (λ (q : List ℕ). get_or q y 0) l in
      let left : m' ≡ (full_scan n ws x).marks ++ drop n m = sym (take-append-drop n m') ∙ rw (l, p) in
      rw (g, le-ltb (length m) n h) (done (r ∙ ap answer_at same) c left)
    where
      done : {a b : Answer} {c d : ℕ} {p q : List ℕ} → a ≡ b → c ≡ d → p ≡ q → question_outcome (Ok (a, c)) p ≡ question_outcome (Ok (b, d)) q
      done e f g = λ i. record { answer = Ok ((e i), (f i)); marks = g i }
