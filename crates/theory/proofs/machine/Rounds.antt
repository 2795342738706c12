-- Rounds within a budget: how the computed scan goes on, also in the terms of a loop that counts up to its budget.
use Prim.Native.Nat.{ℕ, suc, ◌+◌, ◌-◌, ◌<◌, ◌≤◌}
use mathlib.Core.Path.{◌≡◌, refl, ap, ◌∙◌}
use mathlib.Core.Bool.{Bool, true, false, not}
use mathlib.Core.List.{List, [], ◌∷◌}
use native.Mathlib.Omega.{arith}
use native.Mathlib.Numerals.{add-one}
use borrow.Author.Tests.{eqb-true, eq-eqb}
use lib.Dec.{eqb}
use Rattle.theory_laws.proofs.Booleans.{and_left, and_right, not_so, contradiction}
use Rattle.theory.specs.Marks.{round}
use Rattle.theory.specs.Scans.{same, rounds}
use Rattle.theory.specs.Growth.{size, Set, kept, more}
use Rattle.theory.specs.declared.Command.{Command}

pub same_refl : (m : List ℕ) → same m m ≡ true
unfolding same
same_refl [] = refl
same_refl (b ∷ m) = rw (eq-eqb b b refl) (same_refl m)

pub same_eq : (m m' : List ℕ) → same m m' ≡ true → m ≡ m'
unfolding same
same_eq [] [] h = refl
same_eq [] (b ∷ y) h = contradiction h
same_eq (a ∷ x) [] h = contradiction h
same_eq (a ∷ x) (b ∷ y) h = cc (eqb-true a b (and_left (eqb a b) (same x y) h), same_eq x y (and_right (eqb a b) (same x y) h))

-- A flag says whether the marks are the same.
pub set_same : {f : Bool} {m m' : List ℕ} → Set f m m' → same m m' ≡ not f
set_same {m = m} kept = same_refl m
set_same {m = m} {m' = m'} (more l) = not_so (same m m') (λ (e : same m m' ≡ true). let t = ap size (same_eq m m' e) in omega arith)

module _ (cs : List Command) (ws : List ℕ) (k b : ℕ) (m : List ℕ) where
  pub rounds_none : rounds cs ws k 0 m ≡ record { done = false; count = k; marks = m }
  unfolding rounds
  rounds_none = refl

  pub rounds_last : same m (round cs ws m) ≡ true → rounds cs ws k (suc b) m ≡ record { done = true; count = suc k; marks = round cs ws m }
  unfolding rounds
  rounds_last h = rw (h, rounds)

  pub rounds_more : same m (round cs ws m) ≡ false → rounds cs ws k (suc b) m ≡ rounds cs ws (suc k) b (round cs ws m)
  unfolding rounds
  rounds_more h = rw (h, rounds)

-- The same for a loop that has run k rounds of its budget b.
module _ (cs : List Command) (ws : List ℕ) (k b : ℕ) (m m' : List ℕ) where
  pub loop_spent : b ≤ k → rounds cs ws k (b - k) m ≡ record { done = false; count = k; marks = m }
  loop_spent h =
      let z : b - k ≡ 0 = omega arith in
      rw z (rounds_none cs ws k b m)

  module _ (h : k < b) (e : m' ≡ round cs ws m) {f : Bool} (s : Set f m m') where
    turn : b - k ≡ suc (b - (k + 1))
    turn = omega arith

    test : same m (round cs ws m) ≡ not f
    test = rw e at (set_same s)

    pub loop_last : f ≡ false → rounds cs ws k (b - k) m ≡ record { done = true; count = k + 1; marks = m' }
    loop_last g = rw (turn, add-one k, e) (rounds_last cs ws k (b - suc k) m (test ∙ ap not g))

    pub loop_more : f ≡ true → rounds cs ws k (b - k) m ≡ rounds cs ws (k + 1) (b - (k + 1)) m'
    loop_more g = rw (turn, add-one k, e) (rounds_more cs ws k (b - suc k) m (test ∙ ap not g))
