-- Laws of counting: places that do not count, stretches one after another, two tests that make up a third.
use Prim.Native.Nat.{ℕ, zero, suc, ◌+◌, ◌-◌, ◌*◌, ◌≤◌, ◌<◌}
use mathlib.Core.Path.{◌≡◌, refl}
use mathlib.Core.Bool.{Bool, true, false, cond}
use native.Mathlib.Omega.{arith}
use Rattle.figures_counts.specs.Counting.{count, count_rows}

pub count_same : (f g : ℕ → Bool) (b j : ℕ) → ((v : ℕ) → b ≤ v → v < b + j → f v ≡ g v) → count f b j ≡ count g b j
unfolding count
count_same f g b zero h = refl
count_same f g b (suc j) h = rw (h b (omega arith) (omega arith), count_same f g (suc b) j (λ v p q. h v (omega arith) (omega arith)))

pub count_none : (f : ℕ → Bool) (b j : ℕ) → ((v : ℕ) → b ≤ v → v < b + j → f v ≡ false) → count f b j ≡ 0
unfolding count
count_none f b zero h = refl
count_none f b (suc j) h = rw (h b (omega arith) (omega arith), count_none f (suc b) j (λ v p q. h v (omega arith) (omega arith)))

pub count_join : (f : ℕ → Bool) (b i j c d : ℕ) → b + i ≡ c → i + j ≡ d → count f b i + count f c j ≡ count f b d
unfolding count
count_join f b zero j c d e h =
    let p : c ≡ b = omega arith in
    let q : d ≡ j = omega arith in
    rw (p, q) (omega arith)
count_join f b (suc i) j c d e h =
    let q : d ≡ suc (i + j) = omega arith in
    let r = count_join f (suc b) i j c (i + j) (omega arith) refl in
    rw q (omega (arith, r))

-- Only the places from c on count, and i of them.
pub count_within : (f : ℕ → Bool) (c i d : ℕ) → c + i ≤ d → ((v : ℕ) → v < c → f v ≡ false) → ((v : ℕ) → c + i ≤ v → v < d → f v ≡ false) → count f 0 d ≡ count f c i
count_within f c i d h low high =
    let a = count_none f 0 c (λ v p q. low v (omega arith)) in
    let e : c + i + (d - (c + i)) ≡ d = omega arith in
    let b = count_none f (c + i) (d - (c + i)) (λ v p q. high v p (omega arith)) in
    let s = count_join f 0 c i c (c + i) (omega arith) refl in
    let t = count_join f 0 (c + i) (d - (c + i)) (c + i) d (omega arith) e in
    omega (arith, a, b, s, t)

-- Two tests that make up a third.
pub count_plus : (f g h : ℕ → Bool) (b j : ℕ) → ((v : ℕ) → cond (f v) 1 0 + cond (g v) 1 0 ≡ cond (h v) 1 0) → count f b j + count g b j ≡ count h b j
unfolding count
count_plus f g h b zero e = refl
count_plus f g h b (suc j) e = let r = count_plus f g h (suc b) j e in omega (arith, r, e b)

pub count_all : (b j : ℕ) → count (λ (v : ℕ). true) b j ≡ j
unfolding count
count_all b zero = refl
count_all b (suc j) = let r = count_all (suc b) j in omega (arith, r)

module _ (o k : ℕ) where
  pub rows_same : (f g : ℕ → ℕ → Bool) (x j : ℕ) → ((u v : ℕ) → x ≤ u → u < x + j → o ≤ v → v < o + k → f u v ≡ g u v) → count_rows f o k x j ≡ count_rows g o k x j
  unfolding count_rows
  rows_same f g x zero h = refl
  rows_same f g x (suc j) h =
      let a = count_same (f x) (g x) o k (λ v p q. h x v (omega arith) (omega arith) p q) in
      let b = rows_same f g (suc x) j (λ u v p q r s. h u v (omega arith) (omega arith) r s) in
      omega (arith, a, b)

  pub rows_plus : (f g h : ℕ → ℕ → Bool) (x j : ℕ) → ((u v : ℕ) → cond (f u v) 1 0 + cond (g u v) 1 0 ≡ cond (h u v) 1 0) → count_rows f o k x j + count_rows g o k x j ≡ count_rows h o k x j
  unfolding count_rows
  rows_plus f g h x zero e = refl
  rows_plus f g h x (suc j) e =
      let a = count_plus (f x) (g x) (h x) o k (e x) in
      let b = rows_plus f g h (suc x) j e in
      omega (arith, a, b)

  pub rows_none : (f : ℕ → ℕ → Bool) (x j : ℕ) → ((u v : ℕ) → x ≤ u → u < x + j → o ≤ v → v < o + k → f u v ≡ false) → count_rows f o k x j ≡ 0
  unfolding count_rows
  rows_none f x zero h = refl
  rows_none f x (suc j) h =
      let a = count_none (f x) o k (λ v p q. h x v (omega arith) (omega arith) p q) in
      let b = rows_none f (suc x) j (λ u v p q r s. h u v (omega arith) (omega arith) r s) in
      omega (arith, a, b)

  pub rows_join : (f : ℕ → ℕ → Bool) (x i j c d : ℕ) → x + i ≡ c → i + j ≡ d → count_rows f o k x i + count_rows f o k c j ≡ count_rows f o k x d
  unfolding count_rows
  rows_join f x zero j c d e h =
      let p : c ≡ x = omega arith in
      let q : d ≡ j = omega arith in
      rw (p, q) (omega arith)
  rows_join f x (suc i) j c d e h =
      let q : d ≡ suc (i + j) = omega arith in
      let r = rows_join f (suc x) i j c (i + j) (omega arith) refl in
      rw q (omega (arith, r))

  -- All pairs: j times k.
  pub rows_all : (x j : ℕ) → count_rows (λ (u v : ℕ). true) o k x j ≡ j * k
  unfolding count_rows
  rows_all x zero = omega arith
  rows_all x (suc j) =
      let a = count_all o k in
      let b = rows_all (suc x) j in
      let e : suc j * k ≡ k + j * k = omega arith in
      omega (arith, a, b, e)
