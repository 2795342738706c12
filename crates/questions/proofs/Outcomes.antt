-- Each outcome of a screenful, in the terms of the code.
use Rattle.questions.specs.declared.PairsError.TheVariants.{BadPairs, Refused}
use Rattle.std.specs.Prelude.{Err, Ok}
use Prim.Native.Nat.{ℕ, ◌<◌, ◌≤◌}
use mathlib.Core.Path.{◌≡◌}
use mathlib.Core.Bool.{true, false}
use mathlib.Core.List.{List}
use borrow.Author.Tests.{lt-ltb, le-ltb}
use lib.ListN.{length}
use Rattle.theory_laws.specs.Over.{over}
use Rattle.net.specs.Clauses.{call}
use Rattle.net.specs.declared.Refusal.TheVariants.{ShortBuffer}
use Rattle.questions.specs.Pairs.{pairs_in}
use Rattle.questions.specs.Table.{answers_from, marks_from, bad_pairs, questions_outcome, questions_clauses, questions_done}

module _ (o n : ℕ) (ws ps bs m : List ℕ) where
  -- Number 10.
  pub all_bad : bad_pairs (length ps) (length bs) ≡ true → questions_outcome (Err BadPairs) bs m ≡ call (questions_clauses ps bs m n) (questions_done o ws ps bs m n)
  all_bad h = rw h

  -- Number 5.
  pub all_short : bad_pairs (length ps) (length bs) ≡ false → length m < n → questions_outcome (Err (Refused ShortBuffer)) bs m ≡ call (questions_clauses ps bs m n) (questions_done o ws ps bs m n)
  all_short g h = rw (g, lt-ltb (length m) n h)

  -- Number 0: the code was left with the bytes bs' and the marks m'.
  pub all_done : bad_pairs (length ps) (length bs) ≡ false → n ≤ length m → (bs' m' : List ℕ) → bs' ≡ over (answers_from o n ws ps 0 (pairs_in ps)) bs → m' ≡ marks_from o n ws ps 0 (pairs_in ps) m
      → questions_outcome (Ok tt) bs' m' ≡ call (questions_clauses ps bs m n) (questions_done o ws ps bs m n)
  all_done g h bs' m' e f = rw (g, le-ltb (length m) n h) (λ i. record { answer = Ok tt; answers = e i; marks = f i })
