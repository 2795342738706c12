-- A decimal says its number: its bytes are digits, the first of them is no 0 unless the number is 0, and no two numbers below 2^32 have one decimal.
use Prim.Native.Nat.{ℕ, zero, suc, ◌+◌, ◌*◌, ◌-◌, ◌/◌, ◌%◌, ◌^◌, ◌≤◌, ◌<◌}
use mathlib.Core.Path.{◌≡◌, refl, sym, ap, ◌∙◌}
use mathlib.Core.Bool.{Bool, true, false, cond}
use mathlib.Core.List.Memᴰ
use mathlib.Core.List.{List, [], ◌∷◌, ◌++◌, Memᴰ}
use mathlib.Core.Logic.{⊎_elim}
use native.Mathlib.Omega.{arith}
use native.Mathlib.Nat.{pow-suc}
use borrow.Author.Tests.{ltb-true, ltb-false}
use lib.Dec.{ltb}
use lib.ListN.{get_or}
use Rattle.text_field.specs.Decimal.{digits, decimal, value_from, value, Digit}

-- The last digit counts once, what stands before it ten times.
value_last : (n : ℕ) (l : List ℕ) (b : ℕ) → value_from n (l ++ b ∷ []) ≡ value_from n l * 10 + (b - 48)
unfolding value_from
value_last n [] b = refl
value_last n (a ∷ l) b = value_last (n * 10 + (a - 48)) l b

-- Digits enough for a number say it.
digits_value : (f n : ℕ) → n < 10 ^ f → value (digits f n) ≡ n
unfolding digits value_from
digits_value zero n h = omega arith
digits_value (suc f) n h = at (ltb n 10) refl (digits_value f (n / 10))
  where
    at : (b : Bool) → ltb n 10 ≡ b → (n / 10 < 10 ^ f → value (digits f (n / 10)) ≡ n / 10)
        → value (cond b ((48 + n) ∷ []) (digits f (n / 10) ++ (48 + n % 10) ∷ [])) ≡ n
    at true e r = omega arith
    at false e r =
        let g : n < 10 ^ f * 10 = rw pow-suc at h in
        value_last 0 (digits f (n / 10)) (48 + n % 10) ∙ rw (r (omega arith)) (omega arith)

-- All bytes are digits.
one_of : {a b : ℕ} → Memᴰ a (b ∷ []) → a ≡ b
one_of m = ⊎_elim (λ e. e) (λ n. elim n [ ]) (Memᴰ.cases_cons m)

digits_digits : (f n b : ℕ) → Memᴰ b (digits f n) → Digit b
unfolding digits
digits_digits zero n b m = elim m [ ]
digits_digits (suc f) n b m = at (ltb n 10) refl (digits_digits f (n / 10) b) m
  where
    at : (t : Bool) → ltb n 10 ≡ t → (Memᴰ b (digits f (n / 10)) → Digit b) → Memᴰ b (cond t ((48 + n) ∷ []) (digits f (n / 10) ++ (48 + n % 10) ∷ [])) → Digit b
    at true e r m =
        let h = ltb-true n 10 e in
        let q = one_of m in
        record { low = omega arith; high = omega arith }
    at false e r m = ⊎_elim r (λ m. let q = one_of m in record { low = omega arith; high = omega arith }) (Memᴰ.append_cases (digits f (n / 10)) m)

-- The first of several digits stands before the last.
first_before : (f n : ℕ) (k l : List ℕ) (c : ℕ) → n < 10 ^ f → 0 < n → digits f n ≡ k → k ++ c ∷ [] ≡ 48 ∷ l → (r : List ℕ) × (k ≡ 48 ∷ r)
unfolding value_from
first_before f n [] l c h g q e = let v : 0 ≡ n = ap value (sym q) ∙ digits_value f n h in absurd (omega arith)
first_before f n (b ∷ k) l c h g q e = (k, ap (λ (a : ℕ). a ∷ k) (ap (λ (t : List ℕ). get_or t 0 0) e))

-- A number whose first digit is 0 is 0.
digits_first : (f n : ℕ) (l : List ℕ) → n < 10 ^ f → digits f n ≡ 48 ∷ l → n ≡ 0
unfolding digits
digits_first zero n l h e = omega arith
digits_first (suc f) n l h e = at (ltb n 10) refl e (digits_first f (n / 10))
  where
    at : (t : Bool) → ltb n 10 ≡ t → cond t ((48 + n) ∷ []) (digits f (n / 10) ++ (48 + n % 10) ∷ []) ≡ 48 ∷ l
        → ((r : List ℕ) → n / 10 < 10 ^ f → digits f (n / 10) ≡ 48 ∷ r → n / 10 ≡ 0) → n ≡ 0
    at true t e r = let q : 48 + n ≡ 48 = ap (λ (k : List ℕ). get_or k 0 0) e in omega arith
    at false t e r =
        let g : 10 ≤ n = ltb-false n 10 t in
        let p : n < 10 ^ f * 10 = rw pow-suc at h in
        let small : n / 10 < 10 ^ f = omega arith in
        let (k, q) = first_before f (n / 10) (digits f (n / 10)) l (48 + n % 10) small (omega arith) refl e in
        absurd (omega (arith, r k small q))

module _ (n : ℕ) (h : n < 4294967296) where
  -- The decimal of a number of four bytes says that number.
  pub decimal_value : value (decimal n) ≡ n
  decimal_value = digits_value 10 n (omega arith)

  -- It begins with 0 only for 0.
  pub decimal_first : (l : List ℕ) → decimal n ≡ 48 ∷ l → n ≡ 0
  decimal_first l = digits_first 10 n l (omega arith)

-- The bytes of a decimal are digits.
pub decimal_digits : (n b : ℕ) → Memᴰ b (decimal n) → Digit b
decimal_digits n = digits_digits 10 n

-- No two numbers of four bytes have one decimal.
pub decimal_one_to_one : (n m : ℕ) → n < 4294967296 → m < 4294967296 → decimal n ≡ decimal m → n ≡ m
decimal_one_to_one n m h g e = sym (decimal_value n h) ∙ ap value e ∙ decimal_value m g
