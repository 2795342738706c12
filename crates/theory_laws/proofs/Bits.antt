-- Laws of the bits of a number: bit j of n is n / 2 ^ j % 2.
use Prim.Native.Nat.{ℕ, zero, suc, ◌+◌, ◌*◌, ◌/◌, ◌%◌, ◌^◌, ◌-◌, ◌<◌, ◌≤◌, min, max}
use mathlib.Core.Path.{◌≡◌, refl, sym, ap, ◌∙◌}
use mathlib.Core.Bool.{true, false, ◌&&◌, ◌||◌}
use native.Mathlib.Omega.{arith}
use native.Mathlib.Nat.{max-le, mod-lt, pow-zero, div-one, lt_of_lt_of_le}
use native.Mathlib.Decide.{dec_lt, ℕ_discrete}
use borrow.Author.Tests.{eqb-false, eqb-true, eq-eqb, ne_eqb}
use lib.Dec.{eqb}
use lib.Arith.{digits_mod}
use lib.Pow.{pow_pos, pow-lt, pow_mono, pow-add, split, mod-pow-add, shl-shr, shr-shr, high}
use lib.Bits.{bit_or, bit_and, or_add_and, and_high, or_shr, or_step, and_step, and_shr, shifted_even}
use lib.Count.{ones, ones_in, ones_cat}

one_ones : ones 1 ≡ 1
unfolding ones ones_in
one_ones = refl

module _ (k b : ℕ) where
  double : 2 ^ (1 + k) ≡ 2 ^ k + 2 ^ k
  double = omega (arith, pow-add 2 1 k)

  and_bit : bit_and b (2 ^ k) ≡ (b / 2 ^ k % 2) * 2 ^ k
  and_bit =
      let e : 2 ^ (1 + k) - 2 ^ k ≡ 2 ^ k = omega (arith, double) in
      rw e at (and_high b 1 k)

  -- A number that has the bit is as it was.
  pub or_had : eqb (b / 2 ^ k % 2) 1 ≡ true → bit_or b (2 ^ k) ≡ b
  or_had h =
      let o : b / 2 ^ k % 2 ≡ 1 = eqb-true _ _ h in
      let a : bit_and b (2 ^ k) ≡ 1 * 2 ^ k = rw o at and_bit in
      omega (arith, or_add_and b (2 ^ k))

  bit_off : eqb (b / 2 ^ k % 2) 1 ≡ false → b / 2 ^ k % 2 ≡ 0
  bit_off h = let n = eqb-false (b / 2 ^ k % 2) 1 h in omega arith

  or_new : eqb (b / 2 ^ k % 2) 1 ≡ false → bit_or b (2 ^ k) ≡ b + 2 ^ k
  or_new h =
      let a : bit_and b (2 ^ k) ≡ 0 * 2 ^ k = rw (bit_off h) at and_bit in
      omega (arith, or_add_and b (2 ^ k))

  -- One that has it not has one bit more afterwards.
  pub ones_new : eqb (b / 2 ^ k % 2) 1 ≡ false → ones (bit_or b (2 ^ k)) ≡ 1 + ones b
  ones_new h =
      let hi = b / 2 ^ (1 + k) in
      let lo = b % 2 ^ k in
      let l : lo < 2 ^ k = mod-lt b (pow_pos k) in
      let m : b % 2 ^ (1 + k) ≡ 0 * 2 ^ k + lo = rw (bit_off h) at (mod-pow-add b 1 k) in
      let e : b ≡ hi * 2 ^ (1 + k) + lo = omega (arith, split b (1 + k)) in
      let w : bit_or b (2 ^ k) ≡ hi * 2 ^ (1 + k) + (1 * 2 ^ k + lo) = omega (arith, or_new h) in
      let x : ones b ≡ ones hi + ones lo = ap ones e ∙ ones_cat (1 + k) hi lo (omega (arith, double)) in
      let y : ones (bit_or b (2 ^ k)) ≡ ones hi + ones (1 * 2 ^ k + lo) = ap ones w ∙ ones_cat (1 + k) hi (1 * 2 ^ k + lo) (omega (arith, double)) in
      let z : ones (1 * 2 ^ k + lo) ≡ ones 1 + ones lo = ones_cat k 1 lo l in
      omega (arith, one_ones)

max_bits : (x y : ℕ) → x < 2 → y < 2 → eqb (max x y) 1 ≡ (eqb x 1 || eqb y 1)
max_bits zero zero p q = refl
max_bits zero (suc zero) p q = refl
max_bits (suc zero) zero p q = refl
max_bits (suc zero) (suc zero) p q = refl
max_bits zero (suc (suc y)) p q = absurd (omega arith)
max_bits (suc zero) (suc (suc y)) p q = absurd (omega arith)
max_bits (suc (suc x)) y p q = absurd (omega arith)

-- Bit j of a disjunction.
pub bit_or_lem : (j a b : ℕ) → eqb (bit_or a b / 2 ^ j % 2) 1 ≡ (eqb (a / 2 ^ j % 2) 1 || eqb (b / 2 ^ j % 2) 1)
bit_or_lem j a b =
    let x = a / 2 ^ j in
    let y = b / 2 ^ j in
    let l : max (x % 2) (y % 2) ≤ 1 = max-le (omega arith) (omega arith) in
    let e : bit_or x y % 2 ≡ max (x % 2) (y % 2) = omega (arith, or_step x y) in
    ap (λ (n : ℕ). eqb n 1) (ap (λ (n : ℕ). n % 2) (or_shr a b j) ∙ e) ∙ max_bits (x % 2) (y % 2) (omega arith) (omega arith)

-- The lowest bit, and the others as bits of the half.
pub bit_first : (n : ℕ) → eqb (n / 2 ^ 0 % 2) 1 ≡ eqb (n % 2) 1
bit_first n = rw (pow-zero, div-one)

pub bit_next : (n j : ℕ) → eqb (n / 2 ^ suc j % 2) 1 ≡ eqb (n / 2 / 2 ^ j % 2) 1
bit_next n j = ap (λ (x : ℕ). eqb (x % 2) 1) (sym (shr-shr n 1 j ∙ ap (λ (x : ℕ). n / 2 ^ x) (omega arith)))

-- Zero has no bit.
pub bit_zero : (j : ℕ) → eqb (0 / 2 ^ j % 2) 1 ≡ false
bit_zero zero = bit_first 0
bit_zero (suc j) = bit_next 0 j ∙ bit_zero j

min_bits : (x y : ℕ) → x < 2 → y < 2 → eqb (min x y) 1 ≡ (eqb x 1 && eqb y 1)
min_bits zero zero p q = refl
min_bits zero (suc zero) p q = refl
min_bits (suc zero) zero p q = refl
min_bits (suc zero) (suc zero) p q = refl
min_bits zero (suc (suc y)) p q = absurd (omega arith)
min_bits (suc zero) (suc (suc y)) p q = absurd (omega arith)
min_bits (suc (suc x)) y p q = absurd (omega arith)

and_low : (a b : ℕ) → bit_and a b % 2 ≡ min (a % 2) (b % 2)
and_low a b = ap (λ (x : ℕ). x % 2) (and_step a b) ∙ digits_mod (bit_and (a / 2) (b / 2)) (omega arith)

-- Bit j of a conjunction.
pub bit_and_lem : (j a b : ℕ) → eqb (bit_and a b / 2 ^ j % 2) 1 ≡ (eqb (a / 2 ^ j % 2) 1 && eqb (b / 2 ^ j % 2) 1)
bit_and_lem j a b =
    ap (λ (x : ℕ). eqb (x % 2) 1) (and_shr a b j)
    ∙ ap (λ (x : ℕ). eqb x 1) (and_low (a / 2 ^ j) (b / 2 ^ j))
    ∙ min_bits (a / 2 ^ j % 2) (b / 2 ^ j % 2) (omega arith) (omega arith)

power_same : (k : ℕ) → 2 ^ k / 2 ^ k ≡ 1
power_same k =
    let e : 1 * 2 ^ k ≡ 2 ^ k = omega arith in
    rw e at (shl-shr 1 k)

power_above : (i j : ℕ) → 2 ^ (suc i + j) / 2 ^ j % 2 ≡ 0
power_above i j =
    let e : 2 ^ (suc i + j) ≡ 2 ^ suc i * 2 ^ j = pow-add 2 (suc i) j in
    let f : 1 * 2 ^ suc i ≡ 2 ^ suc i = omega arith in
    rw (e, shl-shr (2 ^ suc i) j) (rw f at (shifted_even 1 i))

power_below : (k j : ℕ) → k < j → 2 ^ k / 2 ^ j ≡ 0
power_below k j h =
    let e : 0 * 2 ^ j + 2 ^ k ≡ 2 ^ k = omega arith in
    rw e at (high 0 j (pow-lt h))

-- A power of two has one bit.
pub bit_power : (j k : ℕ) → eqb (2 ^ k / 2 ^ j % 2) 1 ≡ eqb j k
bit_power j k = at (ℕ_discrete j k) (dec_lt j k)
  where
    off : (j ≡ k → ⊥) → 2 ^ k / 2 ^ j % 2 ≡ 0 → eqb (2 ^ k / 2 ^ j % 2) 1 ≡ eqb j k
    off n e = ne_eqb (2 ^ k / 2 ^ j % 2) 1 (λ (q : 2 ^ k / 2 ^ j % 2 ≡ 1). omega arith) ∙ sym (ne_eqb j k n)

    at : Dec (j ≡ k) → Dec (j < k) → eqb (2 ^ k / 2 ^ j % 2) 1 ≡ eqb j k
    at (yes e) d = rw (e, power_same k) (sym (eq-eqb k k refl))
    at (no n) (yes h) =
        let e : suc (k - suc j) + j ≡ k = omega arith in
        off n (rw e at (power_above (k - suc j) j))
    at (no n) (no h) = off n (rw (power_below k j (omega arith)))

-- Numbers with the same bits are the same.
pub bits_same : (f a b : ℕ) → a ≤ f → b ≤ f → ((j : ℕ) → eqb (a / 2 ^ j % 2) 1 ≡ eqb (b / 2 ^ j % 2) 1) → a ≡ b
bits_same zero a b p q h = omega arith
bits_same (suc f) a b p q h =
    let e : a / 2 ≡ b / 2 = bits_same f (a / 2) (b / 2) (omega arith) (omega arith) (λ j. rw (shr-shr a 1 j, shr-shr b 1 j) (h (1 + j))) in
    let x : a / 2 ^ 0 ≡ a = omega arith in
    let y : b / 2 ^ 0 ≡ b = omega arith in
    omega (arith, odd (a % 2) (b % 2) (omega arith) (omega arith) (rw (x, y) at (h 0)))
  where
    odd : (x y : ℕ) → x < 2 → y < 2 → eqb x 1 ≡ eqb y 1 → x ≡ y
    odd zero zero u v e = refl
    odd (suc zero) (suc zero) u v e = refl
    odd zero (suc zero) u v e = let z : ◌≡◌ {A = ℕ} 0 1 = cc in absurd (omega arith)
    odd (suc zero) zero u v e = let z : ◌≡◌ {A = ℕ} 0 1 = cc in absurd (omega arith)
    odd zero (suc (suc y)) u v e = absurd (omega arith)
    odd (suc zero) (suc (suc y)) u v e = absurd (omega arith)
    odd (suc (suc x)) y u v e = absurd (omega arith)

-- So are two numbers of k bits of which these k are the same.
pub bits_alike : (k a b : ℕ) → a < 2 ^ k → b < 2 ^ k → ((j : ℕ) → j < k → eqb (a / 2 ^ j % 2) 1 ≡ eqb (b / 2 ^ j % 2) 1) → a ≡ b
bits_alike k a b p q f = bits_same (a + b) a b (omega arith) (omega arith) (λ j. at j (dec_lt j k))
  where
    above : (n j : ℕ) → n < 2 ^ k → k ≤ j → n / 2 ^ j ≡ 0
    above n j h g =
        let e : 0 * 2 ^ j + n ≡ n = omega arith in
        rw e at (high 0 j (lt_of_lt_of_le h (pow_mono g)))

    at : (j : ℕ) → Dec (j < k) → eqb (a / 2 ^ j % 2) 1 ≡ eqb (b / 2 ^ j % 2) 1
    at j (yes h) = f j h
    at j (no h) = rw (above a j p (omega arith), above b j q (omega arith))
