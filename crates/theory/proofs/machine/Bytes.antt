-- The markers U and F of a byte, and both at once, as code reads them.
use Prim.Native.Nat.{ℕ, zero, suc, ◌/◌, ◌%◌, ◌^◌}
use mathlib.Core.Path.{◌≡◌, refl}
use mathlib.Core.Bool.{true, false, ◌&&◌}
use native.Mathlib.Omega.{arith}
use borrow.Author.Tests.{eq-eqb, ne_eqb}
use lib.Pow.{shr-shr}
use Rattle.theory.specs.Marks.{U, F, has, says_yes, says_no}

module _ (b : ℕ) where
  pub has_U : b / 4 % 2 ≡ 1 → has U b ≡ true
  has_U h = eq-eqb (b / 2 ^ 2 % 2) 1 h

  pub no_U : (b / 4 % 2 ≡ 1 → ⊥) → has U b ≡ false
  no_U h = ne_eqb (b / 2 ^ 2 % 2) 1 h

  pub has_F : b / 2 % 2 ≡ 1 → has F b ≡ true
  has_F h = eq-eqb (b / 2 ^ 1 % 2) 1 h

  pub no_F : (b / 2 % 2 ≡ 1 → ⊥) → has F b ≡ false
  no_F h = ne_eqb (b / 2 ^ 1 % 2) 1 h

  -- Yes and no at once, in one test.
  pub says_both : b / 2 % 4 ≡ 3 → (says_yes b && says_no b) ≡ true
  says_both h = rw (has_U (omega arith), has_F (omega arith))

  pub not_both : (b / 2 % 4 ≡ 3 → ⊥) → (says_yes b && says_no b) ≡ false
  not_both h = at (b / 4 % 2) refl
    where
      at : (q : ℕ) → b / 4 % 2 ≡ q → (says_yes b && says_no b) ≡ false
      at zero e = rw (no_U (λ (i : b / 4 % 2 ≡ 1). omega arith))
      at (suc q) e =
          let halves : b / 2 / 2 ≡ b / 4 = shr-shr b 1 1 in
          let p : b / 2 / 2 % 2 ≡ 1 = rw halves (omega arith) in
          rw (has_U (omega arith), no_F (λ (i : b / 2 % 2 ≡ 1). h (omega arith)))
