-- The answer that the figures count a pair under is the one that the question about it gives.
use Rattle.std.specs.Prelude.{Err, Ok}
use Prim.Native.Nat.{ℕ, ◌+◌, ◌≤◌, ◌<◌}
use mathlib.Core.Path.{◌≡◌, refl, sym, ap, ◌∙◌}
use mathlib.Core.Bool.{Bool, true, false}
use mathlib.Core.List.{List}
use mathlib.Core.Logic.{◌↔◌}
use native.Mathlib.Omega.{arith}
use borrow.Author.Tests.{le-leb, lt-ltb, le-ltb, not-true}
use lib.ListN.{length, get_or}
use Rattle.theory_laws.proofs.Booleans.{and_left, and_right, and_both}
use Rattle.theory.specs.Words.{Sign, is, isnt}
use Rattle.theory.specs.Nets.{Kind, Net}
use Rattle.theory.specs.Marks.{has, marker_of}
use Rattle.theory.specs.Scans.{full_scan}
use Rattle.theory.specs.Origins.{set_limit, chosen, NetFrom}
use Rattle.theory.specs.Completion.{full_marks}
use Rattle.theory.specs.Rows.{answers}
use Rattle.theory.proofs.origins.Statements.{chosen_net}
use Rattle.net.proofs.Good.{good_pair}
use Rattle.net.proofs.OnNet.{gone_on}
use Rattle.net.proofs.NetCheck.{net_is_checked}
use Rattle.question.specs.Table.{QuestionOutcome, answer_at, answer_number, question_outcome, question_clauses, question_done, questioned}
use Rattle.question.specs.Table.{Asked}
use Rattle.figures_counts.specs.Meaning.{Gets, place}
use Rattle.figures_counts.specs.Counting.{agree}
use Rattle.figures_counts.proofs.Figures.{gets_is, is_gets}
use Rattle.figures.specs.Figured.{answer_of}

-- The number of an answer is its place among four counts.
pub answer_place : (p q : Bool) → answer_number (answer_of p q) ≡ place p q
answer_place true true = refl
answer_place true false = refl
answer_place false true = refl
answer_place false false = refl

place_first : (p q r s : Bool) → place p q ≡ place r s → (p ≡ r) × (q ≡ s)
place_first true true true true e = (refl, refl)
place_first true false true false e = (refl, refl)
place_first false true false true e = (refl, refl)
place_first false false false false e = (refl, refl)
place_first true true true false e = absurd (omega arith)
place_first true true false true e = absurd (omega arith)
place_first true true false false e = absurd (omega arith)
place_first true false true true e = absurd (omega arith)
place_first true false false true e = absurd (omega arith)
place_first true false false false e = absurd (omega arith)
place_first false true true true e = absurd (omega arith)
place_first false true true false e = absurd (omega arith)
place_first false true false false e = absurd (omega arith)
place_first false false true true e = absurd (omega arith)
place_first false false true false e = absurd (omega arith)
place_first false false false true e = absurd (omega arith)

-- The number of the answer that was given.
abbrev told : Asked → ℕ
told (Ok (r, count)) = answer_number r
told (Err r) = 0

agreed : (p c : Bool) → agree p c ≡ true → c ≡ p
agreed true c e = e
agreed false c e = not-true c e

agrees : (p : Bool) → agree p p ≡ true
agrees true = refl
agrees false = refl

module _ (o k : ℕ) (ws : List ℕ) (set : ℕ) (net : NetFrom o k ws) (choice : set ≤ set_limit) (x y : ℕ) (node : x < o + k) (kind : Kind o k y) (m : List ℕ) (marks : o + k ≤ length m) where
  fine : Net o k (chosen set ws)
  fine = chosen_net set o k ws net

  at_kind : (s : Sign) → answers o k (chosen set ws) s x y ≡ has (marker_of s) (get_or (full_marks o k (chosen set ws) x) y 0)
  at_kind s = rw (le-leb o y kind.low, lt-ltb y (o + k) kind.high)

  -- What the question gives: the answer by the byte at y, and a count of rounds.
  asked_done : (questioned o k ws set x y m).answer ≡ Ok (answer_at (get_or (full_marks o k (chosen set ws) x) y 0), (full_scan (o + k) (chosen set ws) x).count)
  asked_done =
      sym (ap (λ (r : QuestionOutcome). r.answer)
      (gone_on (λ r. question_outcome (Err r) m) o k ws set (question_clauses o x y m) (question_done (chosen set ws) x y m) (net_is_checked o k ws set choice net) refl))
      ∙ rw ((good_pair o (o + k) x y).1 (record { node = node; low = kind.low; high = kind.high }), le-ltb (length m) (o + k) marks)

  -- The pair gets an answer exactly if the question gives it.
  pub gets_asked : (p q : Bool) → Gets o k (chosen set ws) p q x y ↔ ((questioned o k ws set x y m).answer ≡ Ok (answer_of p q, (full_scan (o + k) (chosen set ws) x).count))
  gets_asked p q = (to, from)
    where
      to : Gets o k (chosen set ws) p q x y → (questioned o k ws set x y m).answer ≡ Ok (answer_of p q, (full_scan (o + k) (chosen set ws) x).count)
      to g =
          let e = is_gets o k (chosen set ws) fine p q x y node g in
          let f = sym (at_kind is) ∙ agreed p (answers o k (chosen set ws) is x y) (and_left (agree p (answers o k (chosen set ws) is x y)) (agree q (answers o k (chosen set ws) isnt x y)) e) in
          let h = sym (at_kind isnt) ∙ agreed q (answers o k (chosen set ws) isnt x y) (and_right (agree p (answers o k (chosen set ws) is x y)) (agree q (answers o k (chosen set ws) isnt x y)) e) in
          asked_done ∙ rw (f, h)

      given : ◌≡◌ {A = Asked} (Ok (answer_at (get_or (full_marks o k (chosen set ws) x) y 0), (full_scan (o + k) (chosen set ws) x).count)) (Ok (answer_of p q, (full_scan (o + k) (chosen set ws) x).count))
          → Gets o k (chosen set ws) p q x y
      given e =
          let n = sym (answer_place (has (marker_of is) (get_or (full_marks o k (chosen set ws) x) y 0)) (has (marker_of isnt) (get_or (full_marks o k (chosen set ws) x) y 0))) ∙ ap told e ∙ answer_place p q in
          let s = place_first (has (marker_of is) (get_or (full_marks o k (chosen set ws) x) y 0)) (has (marker_of isnt) (get_or (full_marks o k (chosen set ws) x) y 0)) p q n in
          gets_is o k (chosen set ws) fine p q x y node (rw (at_kind is, at_kind isnt, s.0, s.1) (and_both (agree p p) (agree q q) (agrees p) (agrees q)))

      from : (questioned o k ws set x y m).answer ≡ Ok (answer_of p q, (full_scan (o + k) (chosen set ws) x).count) → Gets o k (chosen set ws) p q x y
      from e = given (sym asked_done ∙ e)
