-- What it means that a number of a call's table is given.
use Rattle.std.specs.Prelude.{ℕ, ◌≡◌, Bool, true, false, cond, List, [], ◌∷◌, ◌↔◌, eqb}
use Rattle.net.specs.Clauses.{Clause}

-- The one type or the other.
abbrev pub choose : Bool → Type 0 → Type 0 → Type 0
choose true P Q = P
choose false P Q = Q

-- Number n is due: its clause applies and none before it does; 0 is due where no clause applies.
abbrev pub Due : {A : Type 0} → ℕ → List (Clause A) → Type 0
Due n [] = n ≡ 0
Due n (l ∷ ls) = choose (eqb l.number n) (l.applies ≡ true) ((l.applies ≡ false) × Due n ls)

-- What clause n gives and leaves; for a number of no clause, what a call that is done does.
abbrev pub outcome_of : {A : Type 0} → ℕ → List (Clause A) → A → A
outcome_of n [] done = done
outcome_of n (l ∷ ls) done = cond (eqb l.number n) l.outcome (outcome_of n ls done)

-- An outcome obeys a table: its number is n exactly when n is due, and then all of it, every buffer included, is what clause n says.
pub record Obeys {A : Type 0} (number : A → ℕ) (ls : List (Clause A)) (done r : A) : Type 0 where
  pub exactly : (n : ℕ) → (number r ≡ n) ↔ Due n ls
  pub leaves : (n : ℕ) → Due n ls → r ≡ outcome_of n ls done
