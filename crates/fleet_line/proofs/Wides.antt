-- The fewest digits that hold a number are its decimal digits, and as many are enough as there is room for.
use Prim.Native.Nat.{ℕ, zero, suc, ◌+◌, ◌-◌, ◌*◌, ◌/◌, ◌%◌, ◌^◌, ◌≤◌, ◌<◌}
use mathlib.Core.Path.{◌≡◌, refl, ap, ap₂, ◌∙◌}
use mathlib.Core.List.{List, [], ◌∷◌, ◌++◌}
use native.Mathlib.Omega.{arith}
use native.Mathlib.Nat.{pow-suc, pow-zero}
use native.Mathlib.Decide.{dec_lt}
use borrow.Author.Tests.{lt-ltb, le-ltb}
use lib.ListN.{length}
use Rattle.io.specs.Digits.{IsDigitCount}
use Rattle.io.specs.Digits as spelled
use Rattle.text_field.specs.Decimal.{digits}
use Rattle.text_field.proofs.Decimals.{most_digits}
use Rattle.fleet_line.specs.Line.{wide}

last : (n : ℕ) → spelled.hex_digit_ascii (n % 10) ≡ 48 + n % 10
last n = rw (lt-ltb (n % 10) 10 (omega arith))

-- With r digits and no fewer a number is what it is with more room.
pub digits_same : (f r n : ℕ) → suc r ≤ f → n < 10 ^ suc r → (1 < suc r → 10 ^ r ≤ n) → spelled.last_digits 10 (suc r) n ≡ digits f n
unfolding digits
digits_same zero r n h g k = absurd (omega arith)
digits_same (suc f) zero n h g k =
    let p : n < 10 = g in
    let q : n % 10 ≡ n = omega arith in
    rw (lt-ltb n 10 p) (ap (λ (i : ℕ). i ∷ []) (last n ∙ ap (λ (i : ℕ). 48 + i) q))
digits_same (suc f) (suc r) n h g k =
    let p : 10 ^ suc r ≤ n = k (omega arith) in
    let a : 10 ^ suc r ≡ 10 ^ r * 10 = pow-suc 10 r in
    let b : 10 ^ suc (suc r) ≡ 10 ^ suc r * 10 = pow-suc 10 (suc r) in
    let pos : 1 ≤ 10 ^ r = ten r in
    rw (le-ltb n 10 (omega (arith, p, a, pos)))
    (ap₂ (λ (l : List ℕ) (i : ℕ). l ++ i ∷ []) (digits_same f r (n / 10) (omega arith) (omega (arith, g, b)) (λ i. omega (arith, p, a))) (last n))
  where
    ten : (r : ℕ) → 1 ≤ 10 ^ r
    ten zero = simp pow-zero (omega arith)
    ten (suc r) = let e : 10 ^ suc r ≡ 10 ^ r * 10 = pow-suc 10 r in let h = ten r in omega (arith, e, h)

ten_more : (i j d : ℕ) → i + j ≡ d → 10 ^ i ≤ 10 ^ d
ten_more i zero d e = let p : d ≡ i = omega arith in rw p (omega arith)
ten_more i (suc j) d e =
    let p : d ≡ suc (i + j) = omega arith in
    let h = ten_more i j (i + j) refl in
    let q : 10 ^ suc (i + j) ≡ 10 ^ (i + j) * 10 = pow-suc 10 (i + j) in
    rw p (omega (arith, h, q))

-- Eight bytes have at most twenty digits.
few : (n r : ℕ) → n < 2 ^ 64 → (1 < suc r → 10 ^ r ≤ n) → Dec (r < 20) → suc r ≤ 20
few n r h k (yes g) = omega arith
few n r h k (no g) =
    let p : 10 ^ 20 ≤ 10 ^ r = ten_more 20 (r - 20) r (omega arith) in
    absurd (omega (arith, p, k (omega arith), h))

-- What `io::decimal` leaves is the number in decimal.
pub wide_spelled : (n r : ℕ) → n < 2 ^ 64 → IsDigitCount 10 1 n r → spelled.last_digits 10 r n ≡ wide n
wide_spelled n zero h f = absurd (omega (arith, f.0))
wide_spelled n (suc r) h f =
    let e : suc r - 1 ≡ r = omega arith in
    let least : 1 < suc r → 10 ^ r ≤ n = λ i. rw e at (f.2 i) in
    digits_same 20 r n (few n r h least (dec_lt r 20)) f.1 least

pub wide_short : (n : ℕ) → length (wide n) ≤ 20
wide_short n = most_digits 20 n
