-- Decimal digits: how the last one splits off, how many there are, and the digits as they are spelled from the last to the first.
use Prim.Native.Nat.{ℕ, zero, suc, ◌+◌, ◌*◌, ◌-◌, ◌/◌, ◌%◌, ◌^◌, ◌≤◌, ◌<◌}
use mathlib.Core.Path.{◌≡◌, refl, ◌∙◌}
use mathlib.Core.Bool.{Bool, true, false, cond}
use mathlib.Core.List.{List, [], ◌∷◌, ◌++◌, append_assoc}
use native.Mathlib.Omega.{arith}
use native.Mathlib.Nat.{pow-suc}
use borrow.Author.Tests.{lt-ltb, le-ltb, ltb-false}
use lib.Dec.{ltb}
use lib.ListN.{length, set, drop, length-append, length-set}
use lib.Seq.{drop-cons, get_or-set_same, drop-set-lt}
use Rattle.text_field.specs.Decimal.{digits, decimal}

-- A number below 10 ^ k, k not 0, has at most k digits.
pub few_digits : (f k n : ℕ) → n < 10 ^ suc k → length (digits f n) ≤ suc k
unfolding digits
few_digits zero k n h = omega arith
few_digits (suc f) k n h = at (ltb n 10) refl k h (λ j. few_digits f j (n / 10))
  where
    at : (b : Bool) → ltb n 10 ≡ b → (k : ℕ) → n < 10 ^ suc k → ((j : ℕ) → n / 10 < 10 ^ suc j → length (digits f (n / 10)) ≤ suc j)
        → length (cond b ((48 + n) ∷ []) (digits f (n / 10) ++ (48 + n % 10) ∷ [])) ≤ suc k
    at true e k h r = omega arith
    at false e zero h r = let g : 10 ≤ n = ltb-false n 10 e in absurd (omega arith)
    at false e (suc k) h r =
        let g : n < 10 ^ suc k * 10 = rw pow-suc at h in
        simp length-append (omega (arith, r k (omega arith)))

-- No number has more digits than asked for.
pub most_digits : (f n : ℕ) → length (digits f n) ≤ f
unfolding digits
most_digits zero n = omega arith
most_digits (suc f) n = at (ltb n 10) (most_digits f (n / 10))
  where
    at : (b : Bool) → length (digits f (n / 10)) ≤ f → length (cond b ((48 + n) ∷ []) (digits f (n / 10) ++ (48 + n % 10) ∷ [])) ≤ suc f
    at true r = omega arith
    at false r = simp length-append (omega arith)

-- Storing a value puts it before what follows.
stored : (l : List ℕ) (a v : ℕ) → a < length l → drop a (set l a v) ≡ v ∷ drop (suc a) l
stored l a v h =
    let g : a < length (set l a v) = simp length-set h in
    drop-cons (set l a v) a 0 g ∙ simp (get_or-set_same l a v 0 h, drop-set-lt (suc a) l a v (omega arith))

-- The digits of n, of which those of r are still to be stored before place `at`.
module _ (l : List ℕ) (n r : ℕ) where
  -- The first digit stored: all of them stand there.
  pub spelled_all : (at : ℕ) → 0 < at → at ≤ length l → r / 10 ≡ 0 → decimal n ≡ digits at r ++ drop at l → drop (at - 1) (set l (at - 1) (48 + r % 10)) ≡ decimal n
  unfolding digits
  spelled_all zero g h z e = absurd (omega arith)
  spelled_all (suc a) g h z e =
      let f : suc a - 1 ≡ a = omega arith in
      let d : r % 10 ≡ r = omega arith in
      rw (f, d, stored l a (48 + r) (omega arith), e, lt-ltb r 10 (omega arith))

  -- One digit more stored: those before it are still to come.
  pub spelled_next : (at : ℕ) → 0 < at → at ≤ length l → (r / 10 ≡ 0 → ⊥) → decimal n ≡ digits at r ++ drop at l
      → decimal n ≡ digits (at - 1) (r / 10) ++ drop (at - 1) (set l (at - 1) (48 + r % 10))
  unfolding digits
  spelled_next zero g h z e = absurd (omega arith)
  spelled_next (suc a) g h z e =
      let f : suc a - 1 ≡ a = omega arith in
      let k : 10 ≤ r = omega (arith, z) in
      rw (f, stored l a (48 + r % 10) (omega arith), e, le-ltb r 10 k) (append_assoc (digits a (r / 10)) ((48 + r % 10) ∷ []) (drop (suc a) l))

-- Fewer digits are needed for what stands before the last.
pub shorter : (at r : ℕ) → 0 < at → r < 10 ^ at → r / 10 < 10 ^ (at - 1)
shorter zero r g h = absurd (omega arith)
shorter (suc a) r g h =
    let f : suc a - 1 ≡ a = omega arith in
    let k : r < 10 ^ a * 10 = rw pow-suc at h in
    rw f (omega arith)
