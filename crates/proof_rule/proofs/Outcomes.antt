-- What a step asks for, return by return.
use Prim.Native.Nat.{ℕ, zero, suc, ◌+◌, ◌-◌, ◌*◌, ◌/◌, ◌%◌, ◌≤◌, ◌<◌}
use mathlib.Core.Path.{◌≡◌, refl, sym, ◌∙◌}
use mathlib.Core.Bool.{Bool, true, false, cond}
use mathlib.Core.List.{List}
use native.Mathlib.Omega.{arith}
use lib.Dec.{eqb, ltb}
use borrow.Author.Tests.{eqb-true, eqb-false, ltb-true, lt-ltb, le-ltb}
use Rattle.theory_laws.proofs.Booleans.{and_left, and_right, or_split}
use Rattle.theory.specs.Words.{is, sign_number, word, tail_of, head_of, parity, sign_at, sign_of}
use Rattle.theory.specs.Sequents.{→⊢, →⊢', ↛⊢, ↛⊢', uses}
use Rattle.proof_form.specs.Checker.{individual, rule_at, by_axiom, by_right, by_left, two_of, asks}
use Rattle.proof_form.specs.declared.Asks.{Asks}
use Rattle.proof_form.specs.declared.Asks.TheVariants.{Broken, Nothing, One, Two}
use Rattle.proof_form.proofs.Tests.{by_test}

pub seven : (r : ℕ) → 4 ≤ r → r < 8 → (r ≡ 4 → ⊥) → (r ≡ 5 → ⊥) → (r ≡ 6 → ⊥) → r ≡ 7
seven r h g n4 n5 n6 = omega (arith, n4, n5, n6)

-- The sign of the link that a rule on the left uses.
pub uses_number : (r : ℕ) → 4 ≤ r → r < 8 → sign_number (uses (rule_at r)) ≡ (r - 4) / 2
uses_number r h g =
    by_test (λ z. sign_number (uses z) ≡ (r - 4) / 2) (eqb r 4) →⊢ (cond (eqb r 5) →⊢' (cond (eqb r 6) ↛⊢ ↛⊢')) (λ e. rw (eqb-true r 4 e)) (λ e4.
    by_test (λ z. sign_number (uses z) ≡ (r - 4) / 2) (eqb r 5) →⊢' (cond (eqb r 6) ↛⊢ ↛⊢') (λ e. rw (eqb-true r 5 e)) (λ e5.
    by_test (λ z. sign_number (uses z) ≡ (r - 4) / 2) (eqb r 6) ↛⊢ ↛⊢' (λ e. rw (eqb-true r 6 e)) (λ e6.
    let e : r ≡ 7 = seven r h g (eqb-false r 4 e4) (eqb-false r 5 e5) (eqb-false r 6 e6) in
    rw e)))

-- The four rules on the left.
module _ (r a p q u v : ℕ) where
  pub two_4 : r ≡ 4 → u ≡ a * 2048 + p * 2 + 0 → v ≡ a * 2048 + q * 2 + 0 → Two u v ≡ two_of (rule_at r) a p q
  two_4 e f g = rw (e, f, g)

  pub two_5 : r ≡ 5 → u ≡ a * 2048 + q * 2 + 1 → v ≡ a * 2048 + p * 2 + 1 → Two u v ≡ two_of (rule_at r) a p q
  two_5 e f g = rw (e, f, g)

  pub two_6 : r ≡ 6 → u ≡ a * 2048 + p * 2 + 0 → v ≡ a * 2048 + q * 2 + 1 → Two u v ≡ two_of (rule_at r) a p q
  two_6 e f g = rw (e, f, g)

  pub two_7 : r ≡ 7 → u ≡ a * 2048 + q * 2 + 0 → v ≡ a * 2048 + p * 2 + 1 → Two u v ≡ two_of (rule_at r) a p q
  two_7 e f g = rw (e, f, g)

number_sign : (g : ℕ) → g < 2 → sign_number (sign_at g) ≡ g
number_sign zero h = refl
number_sign (suc g) h = omega arith

module _ (o n : ℕ) (ws A : List ℕ) (g r a w : ℕ) where
  pub axiom_asks : (t : Bool) → r < 2 → t ≡ by_axiom o n ws A g r a w → t ≡ true → Nothing ≡ asks o n ws A g r a w
  unfolding asks
  axiom_asks t h e f = rw (lt-ltb r 2 h, sym e ∙ f)

  pub axiom_broken : (t : Bool) → r < 2 → t ≡ by_axiom o n ws A g r a w → t ≡ false → Broken ≡ asks o n ws A g r a w
  unfolding asks
  axiom_broken t h e f = rw (lt-ltb r 2 h, sym e ∙ f)

  pub right_asks : (t : Bool) (x y z u v : ℕ) → 2 ≤ r → r < 4 → t ≡ by_right o n A g r a w → t ≡ true → x ≡ tail_of g → u ≡ n * 2048 + x * 2 + 0 → y ≡ head_of g → v ≡ n * 2048 + y * 2 + g % 2
      → One u v ≡ asks o n ws A g r a w
  unfolding asks
  right_asks t x y z u v h h' e f ex eu ey ev =
      let s = number_sign (g % 2) (omega arith) in
      let u' : u ≡ word n (tail_of g) is = omega arith in
      let v' : v ≡ word n (head_of g) (sign_of g) = omega arith in
      rw (le-ltb r 2 h, lt-ltb r 4 h', sym e ∙ f, u', v')

  pub right_broken : (t : Bool) → 2 ≤ r → r < 4 → t ≡ by_right o n A g r a w → t ≡ false → Broken ≡ asks o n ws A g r a w
  unfolding asks
  right_broken t h h' e f = rw (le-ltb r 2 h, lt-ltb r 4 h', sym e ∙ f)

  pub left_asks : (t : Bool) (x y : ℕ) (z : Asks) → 4 ≤ r → t ≡ by_left o n ws A r a w → t ≡ true → x ≡ tail_of w → y ≡ head_of w → z ≡ two_of (rule_at r) a x y → z ≡ asks o n ws A g r a w
  unfolding asks
  left_asks t x y z h e f ex ey ez = rw (le-ltb r 2 (omega arith), le-ltb r 4 h, sym e ∙ f, ← ex, ← ey, ez)

  pub left_broken : (t : Bool) → 4 ≤ r → t ≡ by_left o n ws A r a w → t ≡ false → Broken ≡ asks o n ws A g r a w
  unfolding asks
  left_broken t h e f = rw (le-ltb r 2 (omega arith), le-ltb r 4 h, sym e ∙ f)

  -- A step by a rule on the left has a rule below 8 and an individual up to n.
  pub left_rule : by_left o n ws A r a w ≡ true → r < 8
  left_rule e = ltb-true r 8 (and_left (ltb r 8) _ e)

  pub left_node : o ≤ n → by_left o n ws A r a w ≡ true → a ≤ n
  left_node h e =
      or_split (ltb a o) (eqb a n) (and_left (individual o n a) _ (and_right (eqb (parity w) (sign_number (uses (rule_at r)))) _ (and_right (ltb r 8) _ e)))
      (λ f. let z = ltb-true a o f in omega arith)
      (λ f. let z = eqb-true a n f in omega arith)
