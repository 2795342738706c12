-- The parts of what is printed for a question.
use Rattle.std.specs.Prelude.{Err, Ok}
use Prim.Native.Nat.{ℕ}
use mathlib.Core.Path.{◌≡◌, refl, ap}
use mathlib.Core.Bool.{Bool}
use mathlib.Core.List.{List, ◌++◌}
use Rattle.net.specs.declared.Refusal.{Refusal}
use Rattle.theory.specs.Marks.{blank}
use Rattle.text_field.specs.Writing.{Wrote}
use Rattle.question.specs.Table.{QuestionOutcome, question_outcome, questioned}
use Rattle.question.specs.declared.Answer.{Answer}
use Rattle.question.specs.declared.Answer.TheVariants.{None, Yes, No, Both}
use Rattle.question.specs.Table.{Asked}
use Rattle.ask_line.specs.Line.{line_of}
use Rattle.why_reason.specs.Told.{why_text}
use Rattle.why_question.specs.Because.{silent_line, both_text, because_text, asked_text, question_text}

module _ (told : Bool) (o k : ℕ) (ws : List ℕ) (set x y : ℕ) where
  pub both_joins : why_text told o k ws set x y 0 ++ why_text told o k ws set x y 1 ≡ both_text told o k ws set x y
  unfolding both_text
  both_joins = refl

  pub because_none : {a : Answer} → a ≡ None → silent_line ≡ because_text told o k ws set x y a
  unfolding because_text
  because_none e = rw e

  pub because_yes : {a : Answer} → a ≡ Yes → why_text told o k ws set x y 0 ≡ because_text told o k ws set x y a
  unfolding because_text
  because_yes e = rw e

  pub because_no : {a : Answer} → a ≡ No → why_text told o k ws set x y 1 ≡ because_text told o k ws set x y a
  unfolding because_text
  because_no e = rw e

  pub because_both : {a : Answer} → a ≡ Both → both_text told o k ws set x y ≡ because_text told o k ws set x y a
  unfolding because_text
  because_both e = rw e

  pub asked_done : {q : Asked} {a : Answer} {count : ℕ} → q ≡ Ok (a, count) → because_text told o k ws set x y a ≡ asked_text told o k ws set x y q
  unfolding asked_text
  asked_done e = rw e

  pub asked_refused : (text : List ℕ) {q : Asked} {r : Refusal} → q ≡ Err r → Wrote (asked_text told o k ws set x y q) text text 0
  unfolding asked_text
  asked_refused text e = rw e (record { list = refl; size = refl })

  -- The answer is that of the question.
  pub question_joins : {q : Asked} {m : List ℕ} → question_outcome q m ≡ questioned o k ws set x y (blank 1024) → line_of x y q ++ asked_text told o k ws set x y q ≡ question_text told o k ws set x y
  unfolding question_text
  question_joins e = rw (← ap (λ (p : QuestionOutcome). p.answer) e)
