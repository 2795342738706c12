-- What the code makes of one byte, computed for every byte.
use Prim.Native.Nat.{ℕ, zero, suc, ◌+◌, ◌*◌, ◌/◌, ◌%◌, ◌-◌, ◌^◌, ◌<◌}
use mathlib.Core.Path.{◌≡◌, refl}
use mathlib.Core.Bool.{Bool, true, ◌&&◌}
use native.Mathlib.Omega.{arith}
use native.Mathlib.Decide.{ℕ_discrete}
use borrow.Author.Tests.{eqb-true}
use lib.Dec.{eqb}
use lib.Bits.{bit_and, bit_or, bit_xor}
use Rattle.theory_laws.proofs.Booleans.{and_left, and_right}
use Rattle.scan_lanes.specs.Codes.{bit, is_code, is_marks, isnt_code, isnt_marks}

-- A test that passes for all numbers below n.
unfoldable pub upto : ℕ → (ℕ → Bool) → Bool
upto zero p = true
upto (suc n) p = p n && upto n p

-- It passes for each of them.
pub upto_at : (n : ℕ) (p : ℕ → Bool) → upto n p ≡ true → (k : ℕ) → k < n → p k ≡ true
unfolding upto
upto_at zero p h k l = absurd (omega arith)
upto_at (suc n) p h k l = at (ℕ_discrete k n) (upto_at n p (and_right (p n) (upto n p) h) k)
  where
    at : Dec (k ≡ n) → (k < n → p k ≡ true) → p k ≡ true
    at (yes e) g = rw e (and_left (p n) (upto n p) h)
    at (no d) g = g (omega arith)

-- What is the same for every number below n, computed.
pub each : (n : ℕ) (f g : ℕ → ℕ) → upto n (λ (b : ℕ). eqb (f b) (g b)) ≡ true → (b : ℕ) → b < n → f b ≡ g b
each n f g e b l = eqb-true (f b) (g b) (upto_at n (λ (b : ℕ). eqb (f b) (g b)) e b l)

-- The byte whose lower half is x, as the code writes it.
abbrev pub upper : ℕ → ℕ
upper x = x + (7 - x) * 16

-- Marks as `is_code` writes them.
pub is_code_lem : (b : ℕ) → b < 8 → upper ((b + 4) % 8) ≡ is_code b
unfolding upto
is_code_lem = each 8 (λ b. upper ((b + 4) % 8)) is_code refl

-- A byte as `is_folded` writes it.
pub is_folded : (b : ℕ) → b < 256 → bit_or (bit_and b 52) (bit_xor (bit_or (bit_and (b / 16) 3) (bit_and b 4 * 2 ^ 4 % 256)) 67) ≡ is_code (is_marks b)
unfolding upto
is_folded = each 256 (λ b. bit_or (bit_and b 52) (bit_xor (bit_or (bit_and (b / 16) 3) (bit_and b 4 * 2 ^ 4 % 256)) 67)) (λ b. is_code (is_marks b)) refl

-- A byte as `isnt_code` writes it.
pub isnt_code_lem : (b : ℕ) → b < 256 → bit_xor (b / 16 % 4 * 8 + b / 32 % 2 * 4 + b / 32 % 2 * 2 + b / 4 % 2 + b / 4 % 2 * 64) 75 ≡ isnt_code (is_marks b)
unfolding upto
isnt_code_lem =
    each 256 (λ b. bit_xor (b / 16 % 4 * 8 + b / 32 % 2 * 4 + b / 32 % 2 * 2 + b / 4 % 2 + b / 4 % 2 * 64) 75) (λ b. isnt_code (is_marks b)) refl

-- A byte as `isnt_folded` writes it.
pub isnt_folded : (b : ℕ) → b < 256 → upper (b / 8 % 2 + (1 - bit_and (b / 4) (b / 16) % 2) * 2 + (1 - b % 2) * 4) ≡ is_code (isnt_marks b)
unfolding upto
isnt_folded = each 256 (λ b. upper (b / 8 % 2 + (1 - bit_and (b / 4) (b / 16) % 2) * 2 + (1 - b % 2) * 4)) (λ b. is_code (isnt_marks b)) refl

-- The marks that `is_marks` reads.
pub is_marks_lem : (b : ℕ) → b < 256 → 3 - b / 16 % 4 + (1 - b / 4 % 2) * 4 ≡ is_marks b
unfolding upto
is_marks_lem = each 256 (λ b. 3 - b / 16 % 4 + (1 - b / 4 % 2) * 4) is_marks refl

-- A bit of what is left of 255: it stands where the byte lacks it.
pub turned_bit : (i b : ℕ) → i < 8 → b < 256 → bit i (255 - b) ≡ 1 - bit i b
unfolding upto
turned_bit i b l h =
    each 256 (λ b. bit i (255 - b)) (λ b. 1 - bit i b) (upto_at 8 (λ i. upto 256 (λ b. eqb (bit i (255 - b)) (1 - bit i b))) refl i l) b h
