-- Two markers of a byte, as the code reads them.
use Prim.Native.Nat.{ℕ, ◌/◌, ◌%◌, ◌^◌}
use mathlib.Core.Path.{◌≡◌, sym, ap, ◌∙◌}
use mathlib.Core.Bool.{Bool, false, ◌&&◌}
use native.Mathlib.Omega.{arith}
use lib.Dec.{eqb}
use Rattle.theory_laws.proofs.Booleans.{and_true, and_false}
use Rattle.theory.specs.Marks.{T, F, U, has}
use Rattle.theory.proofs.machine.Bytes.{has_F, no_F}

module _ (b : ℕ) where
  pub none_F : (a : ℕ) → b / 2 % 2 ≡ 0 → false ≡ (has a b && has F b)
  none_F a h = rw (no_F b (λ (e : b / 2 % 2 ≡ 1). omega arith)) (sym (and_false (has a b)))

  module _ (h : b / 2 % 2 ≡ 0 → ⊥) where
    F_too : (p : Bool) → p ≡ (p && has F b)
    F_too p =
        let e : b / 2 % 2 ≡ 1 = omega arith in
        rw (has_F b e) (sym (and_true p))

    pub U_and_F : eqb (b / 4 % 2) 1 ≡ (has U b && has F b)
    U_and_F = F_too (has U b)

    pub T_and_F : eqb (b % 2) 1 ≡ (has T b && has F b)
    T_and_F =
        let one : b / 2 ^ 0 ≡ b = omega arith in
        ap (λ (v : ℕ). eqb (v % 2) 1) (sym one) ∙ F_too (has T b)
