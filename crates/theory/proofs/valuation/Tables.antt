-- Tables: their sizes and places, and that the test of one decides whether the statement holds in the valuation that it stands for.
use Prim.Native.Nat.{ℕ, zero, suc, ◌+◌, ◌*◌, ◌≤◌, ◌<◌}
use mathlib.Core.Path.{◌≡◌, refl, subst, ◌∙◌}
use mathlib.Core.Bool.{Bool, true, false, not, ◌&&◌, ◌||◌, false≢true}
use mathlib.Core.List.{List}
use native.Mathlib.Omega.{arith}
use native.Mathlib.Decide.{dec_lt, ℕ_discrete}
use native.Mathlib.Nat.{suc-mul, mul-le-mul, mul-le-mul_right}
use borrow.Author.Tests.{lt-ltb, le-ltb}
use Rattle.theory_laws.specs.Deciding.{Decides}
use Rattle.theory_laws.proofs.Deciding.{decides_both, decides_same}
use Rattle.theory.specs.Words.{Sign, is, isnt}
use Rattle.theory.specs.Marks.{T, F, has}
use Rattle.theory.specs.Valuations.{Agrees, HoldsIn, object, kinds, Domain, byte_at, table_valuation, agrees, everywhere, satisfies}

-- The largest table has 1,048,576 bytes.
pub table_small : (n k : ℕ) → n ≤ 1024 → k ≤ 1024 → n * k ≤ 1048576
table_small n k h l = mul-le-mul {n₁ = n} {m₁ = k} {n₂ = 1024} {m₂ = 1024} h l

-- The row of element d ends inside the table, and so each byte of it stands there.
pub row_in : (k n size d : ℕ) → d < n → n * k ≤ size → d * k + k ≤ size
row_in k n size d h g = omega (arith, suc-mul d k, mul-le-mul_right {m = suc d} {n = n} k h)

pub place_in : (k n size d i : ℕ) → d < n → i < k → n * k ≤ size → d * k + i < size
place_in k n size d i h l g = omega (arith, row_in k n size d h g)

implies : (a b : Bool) → Decides (not a || b) (a ≡ true → b ≡ true)
implies true b = (λ h e. h, λ f. f refl)
implies false b = (λ h e. absurd (false≢true e), λ f. refl)

module _ (o k : ℕ) (t : List ℕ) (p q : ℕ) where
  agrees_decides : (s : Sign) (d : Domain o k) → Decides (agrees s (byte_at o k t d.at p) (byte_at o k t d.at q)) (Agrees (table_valuation o k t) d p q s)
  agrees_decides is d =
      let b = byte_at o k t d.at p in
      let c = byte_at o k t d.at q in
      decides_both (not (has T b) || has T c) (not (has F c) || has F b) (implies (has T b) (has T c)) (implies (has F c) (has F b))
  agrees_decides isnt d =
      let b = byte_at o k t d.at p in
      let c = byte_at o k t d.at q in
      decides_both (not (has T b) || has F c) (not (has T c) || has F b) (implies (has T b) (has F c)) (implies (has T c) (has F b))

  moved : (s : Sign) (a e : Domain o k) → a.at ≡ e.at → Agrees (table_valuation o k t) a p q s → Agrees (table_valuation o k t) e p q s
  moved s a e i h = (agrees_decides s e).0 (subst (λ (z : ℕ). agrees s (byte_at o k t z p) (byte_at o k t z q) ≡ true) i ((agrees_decides s a).1 h))

  -- Each of j elements from d on agrees.
  abbrev All : Sign → ℕ → ℕ → Type 0
  All s d j = (e : Domain o k) → d ≤ e.at → e.at < d + j → Agrees (table_valuation o k t) e p q s

  everywhere_decides : (s : Sign) (d j : ℕ) → d + j ≤ o + k → Decides (everywhere o k t p q s d j) (All s d j)
  unfolding everywhere
  everywhere_decides s d zero h = (λ e n l g. absurd (omega arith), λ f. refl)
  everywhere_decides s d (suc j) h =
      let at : Domain o k = record { at = d; low = omega arith } in
      decides_same (agrees s (byte_at o k t d p) (byte_at o k t d q) && everywhere o k t p q s (suc d) j)
      (decides_both (agrees s (byte_at o k t d p) (byte_at o k t d q)) (everywhere o k t p q s (suc d) j) (agrees_decides s at) (everywhere_decides s (suc d) j (omega arith)))
      (λ f e l g. pick at f e l (omega arith) refl (ℕ_discrete d e.at))
      (λ f. (f at (omega arith) (omega arith), λ e l g. f e (omega arith) (omega arith)))
    where
      pick : (a : Domain o k) → Agrees (table_valuation o k t) a p q s × All s (suc d) j → (e : Domain o k) → d ≤ e.at → e.at < suc d + j → a.at ≡ d → Dec (d ≡ e.at)
          → Agrees (table_valuation o k t) e p q s
      pick a f e l g i (yes h) = moved s a e (i ∙ h) f.0
      pick a f e l g i (no h) = f.1 e (omega arith) g

-- The test says whether the statement holds. It asks nothing of the bytes: those above 3 have T and F as well.
pub satisfies_decides : (o k : ℕ) (t : List ℕ) (x y : ℕ) (s : Sign) → Decides (satisfies o k t x y s) (HoldsIn (table_valuation o k t) x y s)
satisfies_decides o k t x y s = pick (dec_lt x o)
  where
    one : (h : x < o) → HoldsIn (table_valuation o k t) x y s → (table_valuation o k t).value (record { at = x; low = omega arith }) y s
    one h (object l a) = a
    one h (kinds l f) = absurd (omega arith)

    all : o ≤ x → HoldsIn (table_valuation o k t) x y s → All o k t x y s 0 (o + k)
    all h (object l a) = absurd (omega arith)
    all h (kinds l f) = λ e i j. f e

    pick : Dec (x < o) → Decides (satisfies o k t x y s) (HoldsIn (table_valuation o k t) x y s)
    pick (yes h) = rw (lt-ltb x o h) (λ e. object h e, one h)
    pick (no h) =
        let l : o ≤ x = omega arith in
        let t' = everywhere_decides o k t x y s 0 (o + k) (omega arith) in
        rw (le-ltb x o l) (λ e. kinds l (λ d. t'.0 e d (omega arith) (omega (arith, d.low))), λ m. t'.1 (all l m))
