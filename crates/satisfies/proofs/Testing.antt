-- The tests of a table, in the terms of the code.
use Prim.Native.Nat.{ℕ, zero, suc, ◌+◌, ◌-◌, ◌/◌, ◌%◌, ◌^◌, ◌≤◌, ◌<◌}
use mathlib.Core.Path.{◌≡◌, refl, ap}
use mathlib.Core.Bool.{Bool, true, false, not, ◌&&◌, ◌||◌}
use mathlib.Core.List.{List}
use native.Mathlib.Omega.{arith}
use native.Mathlib.Numerals.{add-one}
use lib.Dec.{eqb, leb}
use lib.ListN.{length, get_or, take, drop}
use lib.Seq.{drop-cons}
use Rattle.std.specs.List.{list_all}
use Rattle.theory.specs.Words.{Sign, sign_at}
use Rattle.theory.specs.Marks.{T, F, has}
use Rattle.theory.specs.Valuations.{byte_at, agrees, everywhere}
use Rattle.satisfies.specs.Table.{low_bytes}

-- ── every element ──
module _ (o k : ℕ) (t : List ℕ) (x y : ℕ) (s : Sign) (d n : ℕ) where
  pub everywhere_stop : d < n → agrees s (byte_at o k t d x) (byte_at o k t d y) ≡ false → everywhere o k t x y s d (n - d) ≡ false
  unfolding everywhere
  everywhere_stop l h =
      let e : n - d ≡ suc (n - suc d) = omega arith in
      rw (e, h)

  pub everywhere_go : d < n → agrees s (byte_at o k t d x) (byte_at o k t d y) ≡ true → everywhere o k t x y s d (n - d) ≡ everywhere o k t x y s (d + 1) (n - (d + 1))
  unfolding everywhere
  everywhere_go l h =
      let e : n - d ≡ suc (n - suc d) = omega arith in
      rw (add-one d, e, h)

  pub everywhere_end : n ≤ d → everywhere o k t x y s d (n - d) ≡ true
  unfolding everywhere
  everywhere_end l = let e : n - d ≡ 0 = omega arith in rw e

-- ── bytes that are values ──
pub low_all : (t : List ℕ) (i j : ℕ) → i + j ≤ length t → low_bytes t i j ≡ list_all (λ b. leb b 3) (take j (drop i t))
unfolding low_bytes
low_all t i zero h = refl
low_all t i (suc j) h =
    rw (drop-cons t i 0 (omega arith)) (ap (λ (r : Bool). leb (get_or t i 0) 3 && r) (low_all t (suc i) j (omega arith)))

-- ── one byte, and one element ──
pub read_T : (b : ℕ) → eqb (b % 2) 1 ≡ has T b
read_T b = let e : b ≡ b / 2 ^ 0 = omega arith in ap (λ (i : ℕ). eqb (i % 2) 1) e

module _ (sign p q : ℕ) {a b c d : Bool} where
  pub agree_is : sign ≡ 0 → a ≡ has T p → b ≡ has T q → c ≡ has F q → d ≡ has F p → ((not a || b) && (not c || d)) ≡ agrees (sign_at sign) p q
  agree_is e f g h i = rw (e, f, g, h, i)

  pub agree_isnt : (sign ≡ 0 → ⊥) → a ≡ has T p → b ≡ has F q → c ≡ has T q → d ≡ has F p → ((not a || b) && (not c || d)) ≡ agrees (sign_at sign) p q
  agree_isnt e f g h i = rw (f, g, h, i) (at sign e)
    where
      at : (n : ℕ) → (n ≡ 0 → ⊥) → ((not (has T p) || has F q) && (not (has T q) || has F p)) ≡ agrees (sign_at n) p q
      at zero e = absurd (e refl)
      at (suc n) e = refl
