-- The moves of one word, by the tests that the code makes of the sign asked and of the word's own.
use Prim.Native.Nat.{ℕ, zero, suc, ◌+◌, ◌*◌, ◌-◌, ◌<◌, ◌≤◌}
use mathlib.Core.Path.{◌≡◌, refl}
use mathlib.Core.List.{List, [], ◌∷◌}
use native.Mathlib.Omega.{arith}
use native.Mathlib.Nat.{zero-mul, one-mul}
use Rattle.theory.specs.Words.{sign_at, tail_of, head_of, parity}
use Rattle.theory.specs.Searches.{Arc, arc, arcs_of}
use Rattle.theory.proofs.origins.Folds.{arcs_word}

module _ (n t h : ℕ) where
  along_is : (s p : ℕ) → s ≡ 0 → p ≡ 0 → arcs_of n (sign_at s) t h p [] ≡ arc t h ∷ []
  along_is zero zero a b = refl
  along_is zero (suc p) a b = absurd (omega arith)
  along_is (suc s) p a b = absurd (omega arith)

  none_is : (s p : ℕ) → s ≡ 0 → (p ≡ 0 → ⊥) → arcs_of n (sign_at s) t h p [] ≡ []
  none_is zero zero a b = absurd (b refl)
  none_is zero (suc p) a b = refl
  none_is (suc s) p a b = absurd (omega arith)

  both_are : (s p : ℕ) → (s ≡ 0 → ⊥) → p < 2 → arcs_of n (sign_at s) t h p [] ≡ arc t (h + p * n) ∷ arc (n + h - p * n) (n + t) ∷ []
  both_are zero p a b = absurd (a refl)
  both_are (suc s) zero a b =
      let e : h + 0 * n ≡ h = omega (arith, zero-mul n) in
      let f : n + h - 0 * n ≡ n + h = omega (arith, zero-mul n) in
      rw (e, f)
  both_are (suc s) (suc zero) a b =
      let e : h + 1 * n ≡ n + h = omega (arith, one-mul n) in
      let f : n + h - 1 * n ≡ h = omega (arith, one-mul n) in
      rw (e, f)
  both_are (suc s) (suc (suc p)) a b = absurd (omega arith)

-- A ↛ link crosses by n places, a → link by none.
pub crossed_most : (w n : ℕ) → parity w * n ≤ n
crossed_most w n = at (parity w) (omega arith)
  where
    at : (p : ℕ) → p < 2 → p * n ≤ n
    at zero l = omega (arith, zero-mul n)
    at (suc zero) l = omega (arith, one-mul n)
    at (suc (suc p)) l = absurd (omega arith)

-- The moves of the word w.
abbrev pub word_arcs : ℕ → ℕ → ℕ → List Arc
word_arcs n sign w = arcs_word n (sign_at sign) w []

-- The code found the word's tail t and its head h.
module _ (n sign w : ℕ) {t h : ℕ} (tail : t ≡ tail_of w) (head : h ≡ head_of w) where
  -- Asked for an "is", a → link is a move along itself.
  pub along_only : sign ≡ 0 → parity w ≡ 0 → word_arcs n sign w ≡ arc t h ∷ []
  along_only a b = rw (tail, head) (along_is n (tail_of w) (head_of w) sign (parity w) a b)

  -- A ↛ link is none.
  pub no_move : sign ≡ 0 → (parity w ≡ 0 → ⊥) → word_arcs n sign w ≡ []
  no_move a b = none_is n (tail_of w) (head_of w) sign (parity w) a b

  -- Asked for an "is not", a → link is a move along itself in the first part, and back in the second; a ↛ link crosses over either way.
  pub two_moves : (sign ≡ 0 → ⊥) → word_arcs n sign w ≡ arc t (h + parity w * n) ∷ arc (n + h - parity w * n) (n + t) ∷ []
  two_moves a = rw (tail, head) (both_are n (tail_of w) (head_of w) sign (parity w) a (omega arith))
