-- Demand 1, for every table at once: a call has number n exactly when clause n applies and no clause before it does, and it then leaves what clause n says.
use Prim.Native.Nat.{ℕ}
use mathlib.Core.Path.{◌≡◌, refl, sym, ap, ◌∙◌}
use mathlib.Core.Bool.{Bool, true, false, cond, not, ◌&&◌}
use mathlib.Core.List.{List, [], ◌∷◌}
use lib.Dec.{eqb}
use borrow.Author.Tests.{eqb-true, eqb-false, not-true}
use Rattle.theory_laws.proofs.Booleans.{contradiction, and_left, and_right}
use Rattle.net.specs.Clauses.{Clause, call}
use Rattle.promises.specs.Tables.{choose, Due, outcome_of, Obeys}

-- No clause applies.
abbrev pub NoClause : {A : Type 0} → List (Clause A) → Type 0
NoClause [] = Unit {0}
NoClause (l ∷ ls) = (l.applies ≡ false) × NoClause ls

-- A number stands among the clauses' numbers.
abbrev pub among : {A : Type 0} → ℕ → List (Clause A) → Bool
among n [] = false
among n (l ∷ ls) = cond (eqb l.number n) true (among n ls)

-- No two clauses have one number.
abbrev pub distinct : {A : Type 0} → List (Clause A) → Bool
distinct [] = true
distinct (l ∷ ls) = not (among l.number ls) && distinct ls

-- The outcome of each clause has the clause's own number, where `number` reads the number of an outcome.
abbrev pub Numbered : {A : Type 0} → (A → ℕ) → List (Clause A) → Type 0
Numbered number [] = Unit {0}
Numbered number (l ∷ ls) = (number l.outcome ≡ l.number) × Numbered number ls

-- A table as it should be: numbered, no number twice, none of them 0, and 0 is what a call has to which no clause applies.
pub record Table {A : Type 0} (number : A → ℕ) (ls : List (Clause A)) (done : A) : Type 0 where
  pub numbered : Numbered number ls
  pub once : distinct ls ≡ true
  pub nonzero : among 0 ls ≡ false
  pub zero : NoClause ls → number done ≡ 0

-- A number that is not among some clauses is neither the first clause's nor among the rest.
not_first : {A : Type 0} (n : ℕ) (l : Clause A) (ls : List (Clause A)) → among n (l ∷ ls) ≡ false → eqb l.number n ≡ false
not_first n l ls e = at (eqb l.number n) refl e
  where
    at : (q : Bool) → eqb l.number n ≡ q → cond q true (among n ls) ≡ false → eqb l.number n ≡ false
    at true p h = contradiction (sym h)
    at false p h = p

not_rest : {A : Type 0} (n : ℕ) (l : Clause A) (ls : List (Clause A)) → among n (l ∷ ls) ≡ false → among n ls ≡ false
not_rest n l ls e = at (eqb l.number n) e
  where
    at : (q : Bool) → cond q true (among n ls) ≡ false → among n ls ≡ false
    at true h = contradiction (sym h)
    at false h = h

module _ {A : Type 0} (number : A → ℕ) (done : A) where
  -- A call gives no number but those of its clauses, and 0.
  no_other : (ls : List (Clause A)) → Numbered number ls → (NoClause ls → number done ≡ 0) → (n : ℕ) → among n ls ≡ false → number (call ls done) ≡ n → n ≡ 0
  no_other [] t z n a e = sym e ∙ z tt
  no_other (l ∷ ls) t z n a e = at l.applies refl e (λ h. no_other ls t.1 (λ r. z (h, r)) n (not_rest n l ls a))
    where
      at : (p : Bool) → l.applies ≡ p → number (cond p l.outcome (call ls done)) ≡ n
          → (l.applies ≡ false → number (call ls done) ≡ n → n ≡ 0) → n ≡ 0
      at true h f go = absurd (eqb-false l.number n (not_first n l ls a) (sym t.0 ∙ f))
      at false h f go = go h f

  to_due : (ls : List (Clause A)) → Table number ls done → (n : ℕ) → number (call ls done) ≡ n → Due n ls
  to_due [] t n e = sym e ∙ t.zero tt
  to_due (l ∷ ls) t n e = at l.applies (eqb l.number n) refl refl e (λ r. to_due ls r n)
    where
      others : not (among l.number ls) ≡ true
      others = and_left (not (among l.number ls)) (distinct ls) t.once

      rest : l.applies ≡ false → Table number ls done
      rest h = record {
        numbered = t.numbered.1;
        once = and_right (not (among l.number ls)) (distinct ls) t.once;
        nonzero = not_rest 0 l ls t.nonzero;
        zero = λ r. t.zero (h, r);
      }

      at : (p q : Bool) → l.applies ≡ p → eqb l.number n ≡ q → number (cond p l.outcome (call ls done)) ≡ n
          → (Table number ls done → number (call ls done) ≡ n → Due n ls)
          → choose q (l.applies ≡ true) ((l.applies ≡ false) × Due n ls)
      at true true h g f go = h
      at true false h g f go = absurd (eqb-false l.number n g (sym t.numbered.0 ∙ f))
      at false true h g f go =
          let same : l.number ≡ n = eqb-true l.number n g in
          let none : n ≡ 0 = no_other ls t.numbered.1 (λ r. t.zero (h, r)) n (rw same at (not-true (among l.number ls) others)) f in
          absurd (eqb-false l.number 0 (not_first 0 l ls t.nonzero) (same ∙ none))
      at false false h g f go = (h, go (rest h) f)

  from_due : (ls : List (Clause A)) → Numbered number ls → (NoClause ls → number done ≡ 0) → (n : ℕ) → Due n ls → number (call ls done) ≡ n
  from_due [] t z n d = z tt ∙ sym d
  from_due (l ∷ ls) t z n d = at (eqb l.number n) refl d (λ h. from_due ls t.1 (λ r. z (h, r)) n)
    where
      at : (q : Bool) → eqb l.number n ≡ q → choose q (l.applies ≡ true) ((l.applies ≡ false) × Due n ls)
          → (l.applies ≡ false → Due n ls → number (call ls done) ≡ n)
          → number (cond l.applies l.outcome (call ls done)) ≡ n
      at true g d go = rw d (t.0 ∙ eqb-true l.number n g)
      at false g d go = rw d.0 (go d.0 d.1)

  due_leaves : (ls : List (Clause A)) (n : ℕ) → Due n ls → call ls done ≡ outcome_of n ls done
  due_leaves [] n d = refl
  due_leaves (l ∷ ls) n d = at (eqb l.number n) d (due_leaves ls n)
    where
      at : (q : Bool) → choose q (l.applies ≡ true) ((l.applies ≡ false) × Due n ls) → (Due n ls → call ls done ≡ outcome_of n ls done)
          → cond l.applies l.outcome (call ls done) ≡ cond q l.outcome (outcome_of n ls done)
      at true d go = rw d
      at false d go = rw d.0 (go d.1)

  -- A call obeys its table.
  pub obeys : (ls : List (Clause A)) → Table number ls done → (r : A) → r ≡ call ls done → Obeys number ls done r
  obeys ls t r e = record {
    exactly = λ n. (λ p. to_due ls t n (sym (ap number e) ∙ p), λ d. ap number e ∙ from_due ls t.numbered t.zero n d);
    leaves = λ n d. e ∙ due_leaves ls n d;
  }
