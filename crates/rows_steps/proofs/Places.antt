-- What setting a bit and joining a row do to each bit of each row.
use Prim.Native.Nat.{ℕ, zero, suc, ◌+◌, ◌*◌, ◌/◌, ◌%◌, ◌^◌, ◌≤◌, ◌<◌}
use mathlib.Core.Path.{◌≡◌, refl, sym, ap, ◌∙◌}
use mathlib.Core.Bool.{Bool, true, false, ◌||◌}
use mathlib.Core.List.{List}
use mathlib.Core.Logic.{◌⊎◌, inl, inr}
use native.Mathlib.Omega.{arith}
use native.Mathlib.Nat.{mul-le-mul_right}
use native.Mathlib.Decide.{ℕ_discrete, dec_lt}
use borrow.Author.Tests.{eqb-true, eq-eqb}
use lib.Dec.{eqb, lit<}
use lib.ListN.{length, get_or, set, replicate, length-set}
use lib.Seq.{get_or-set_same, get_or-set_other}
use lib.Arith.{digits_lt, digits_div, digits_mod}
use lib.Bits.{bit_or}
use Rattle.theory_laws.proofs.Booleans.{or_true, or_split}
use Rattle.theory_laws.proofs.Bits.{bit_or_lem, bit_power, bit_zero}
use Rattle.theory.specs.Marks.{has}
use Rattle.theory.specs.Rows.{Wide, bit_at}
use Rattle.rows_steps.specs.Rows.{put, gain}
use Rattle.rows_steps.specs.Steps.{empty_row, copied}

-- ── places ──
-- Two places in rows of w words are one only in one row.
pub row_same : (w x v i j : ℕ) → i < w → j < w → x * w + i ≡ v * w + j → x ≡ v
row_same w x v i j h g e = sym (digits_div x h) ∙ ap (λ (q : ℕ). q / w) e ∙ digits_div v g

pub word_same : (w x v i j : ℕ) → i < w → j < w → x * w + i ≡ v * w + j → i ≡ j
word_same w x v i j h g e = sym (digits_mod x h) ∙ ap (λ (q : ℕ). q % w) e ∙ digits_mod v g

-- A row of one of n nodes ends inside.
pub row_ends : (w x n : ℕ) → x < n → x * w + w ≤ n * w
row_ends w x n h = let e = mul-le-mul_right w h in omega arith

-- ── words ──
pub gain_long : (a b j : ℕ) (r l : List ℕ) → length (gain a b j r l) ≡ length l
unfolding gain
gain_long a b zero r l = refl
gain_long a b (suc j) r l = let v = bit_or (get_or l a 0) (get_or r b 0) in gain_long (suc a) (suc b) j r (set l a v) ∙ length-set l a v

pub gain_before : (a b j : ℕ) (r l : List ℕ) (i : ℕ) → i < a → get_or (gain a b j r l) i 0 ≡ get_or l i 0
unfolding gain
gain_before a b zero r l i h = refl
gain_before a b (suc j) r l i h =
    let v = bit_or (get_or l a 0) (get_or r b 0) in
    gain_before (suc a) (suc b) j r (set l a v) i (omega arith) ∙ get_or-set_other l a i v 0 (λ (e : i ≡ a). omega arith)

gain_past : (a b j : ℕ) (r l : List ℕ) (i : ℕ) → a + j ≤ i → get_or (gain a b j r l) i 0 ≡ get_or l i 0
unfolding gain
gain_past a b zero r l i h = refl
gain_past a b (suc j) r l i h =
    let v = bit_or (get_or l a 0) (get_or r b 0) in
    gain_past (suc a) (suc b) j r (set l a v) i (omega arith) ∙ get_or-set_other l a i v 0 (λ (e : i ≡ a). omega arith)

gain_inside : (a b j : ℕ) (r l : List ℕ) → a + j ≤ length l → (i : ℕ) → i < j → get_or (gain a b j r l) (a + i) 0 ≡ bit_or (get_or l (a + i) 0) (get_or r (b + i) 0)
unfolding gain
gain_inside a b zero r l h i g = absurd (omega arith)
gain_inside a b (suc j) r l h zero g =
    let v = bit_or (get_or l a 0) (get_or r b 0) in
    let e : a + 0 ≡ a = omega arith in
    let f : b + 0 ≡ b = omega arith in
    rw (e, f) (gain_before (suc a) (suc b) j r (set l a v) a (omega arith) ∙ get_or-set_same l a v 0 (omega arith))
gain_inside a b (suc j) r l h (suc i) g =
    let v = bit_or (get_or l a 0) (get_or r b 0) in
    let e : a + suc i ≡ suc a + i = omega arith in
    let f : b + suc i ≡ suc b + i = omega arith in
    let p : get_or (set l a v) (suc a + i) 0 ≡ get_or l (suc a + i) 0 = get_or-set_other l a (suc a + i) v 0 (λ (q : suc a + i ≡ a). omega arith) in
    rw (e, f) (gain_inside (suc a) (suc b) j r (set l a v) (simp length-set (omega arith)) i (omega arith) ∙ rw p)

-- ── bits ──
-- A row gains the row of r at place b.
pub gain_bit : (a b w : ℕ) (r l : List ℕ) → a + w ≤ length l → (y : ℕ) → y < w * 64 → bit_at (gain a b w r l) a y ≡ (bit_at l a y || bit_at r b y)
gain_bit a b w r l h y g =
    ap (has (y % 64)) (gain_inside a b w r l h (y / 64) (omega arith)) ∙ bit_or_lem (y % 64) (get_or l (a + y / 64) 0) (get_or r (b + y / 64) 0)

none_at : (z i : ℕ) → ◌≡◌ {A = ℕ} (get_or (replicate z 0) i 0) 0
none_at zero i = refl
none_at (suc z) zero = refl
none_at (suc z) (suc i) = none_at z i

-- The empty row has room for a row, no bit, and 64-bit words.
pub empty_long : (w : ℕ) → w ≤ 16 → 0 + w ≤ length empty_row
empty_long w h = let e : length empty_row ≡ 16 = refl in omega (arith, e)

pub empty_bit : (y : ℕ) → bit_at empty_row 0 y ≡ false
empty_bit y = ap (has (y % 64)) (none_at 16 (0 + y / 64)) ∙ bit_zero (y % 64)

pub empty_wide : Wide empty_row
empty_wide i = rw (none_at 16 i) (lit< tt)

-- A copy of a row has the row's bits.
pub copied_bit : (w a : ℕ) (l : List ℕ) → w ≤ 16 → (y : ℕ) → y < w * 64 → bit_at (copied w a l) 0 y ≡ bit_at l a y
copied_bit w a l h y g = gain_bit 0 a w l empty_row (empty_long w h) y g ∙ ap (λ (q : Bool). q || bit_at l a y) (empty_bit y)

-- l holds n rows of w words.
module _ (n w : ℕ) (l : List ℕ) (room : n * w ≤ length l) where
  -- Row x gains the row of r at place b.
  pub gain_same : (x b : ℕ) (r : List ℕ) (y : ℕ) → x < n → y < w * 64 → bit_at (gain (x * w) b w r l) (x * w) y ≡ (bit_at l (x * w) y || bit_at r b y)
  gain_same x b r y h g = let e = row_ends w x n h in gain_bit (x * w) b w r l (omega arith) y g

  -- Every other row is as it was.
  pub gain_other : (x b : ℕ) (r : List ℕ) (u y : ℕ) → (u ≡ x → ⊥) → y < w * 64 → bit_at (gain (x * w) b w r l) (u * w) y ≡ bit_at l (u * w) y
  gain_other x b r u y f g = ap (has (y % 64)) (at (dec_lt u x))
    where
      at : Dec (u < x) → get_or (gain (x * w) b w r l) (u * w + y / 64) 0 ≡ get_or l (u * w + y / 64) 0
      at (yes h) = gain_before (x * w) b w r l (u * w + y / 64) (digits_lt h (omega arith))
      at (no h) =
          let e = row_ends w x u (omega arith) in
          gain_past (x * w) b w r l (u * w + y / 64) (omega arith)

  place_in : (x y : ℕ) → x < n → y < w * 64 → x * w + y / 64 < length l
  place_in x y h g = let e = row_ends w x n h in omega arith

  -- Bit y of row x is set.
  pub put_same : (x y : ℕ) → x < n → y < w * 64 → bit_at (put (x * w) y l) (x * w) y ≡ true
  unfolding put
  put_same x y h g =
      let v = get_or l (x * w + y / 64) 0 in
      ap (has (y % 64)) (get_or-set_same l (x * w + y / 64) (bit_or v (2 ^ (y % 64))) 0 (place_in x y h g))
      ∙ bit_or_lem (y % 64) v (2 ^ (y % 64)) ∙ ap (λ (q : Bool). has (y % 64) v || q) (bit_power (y % 64) (y % 64) ∙ same (y % 64)) ∙ or_true (has (y % 64) v)
    where
      same : (q : ℕ) → eqb q q ≡ true
      same q = eq-eqb q q refl

  -- No other bit is.
  pub put_only : (x y u v : ℕ) → x < n → y < w * 64 → v < w * 64 → bit_at (put (x * w) y l) (u * w) v ≡ true
      → ((u ≡ x) × (v ≡ y)) ⊎ (bit_at l (u * w) v ≡ true)
  unfolding put
  put_only x y u v h g i e = at (ℕ_discrete (u * w + v / 64) (x * w + y / 64))
    where
      here : (old : ℕ) → old ≡ get_or l (x * w + y / 64) 0 → u * w + v / 64 ≡ x * w + y / 64 → has (v % 64) (bit_or old (2 ^ (y % 64))) ≡ true → ((u ≡ x) × (v ≡ y)) ⊎ (bit_at l (u * w) v ≡ true)
      here old m q b = or_split (has (v % 64) old) (has (v % 64) (2 ^ (y % 64))) (sym (bit_or_lem (v % 64) old (2 ^ (y % 64))) ∙ b)
          (λ s. inr (rw (q, ← m) s))
          (λ s.
          let bits : v % 64 ≡ y % 64 = eqb-true (v % 64) (y % 64) (sym (bit_power (v % 64) (y % 64)) ∙ s) in
          let words : v / 64 ≡ y / 64 = word_same w u x (v / 64) (y / 64) (omega arith) (omega arith) q in
          inl (row_same w u x (v / 64) (y / 64) (omega arith) (omega arith) q, omega arith))

      at : Dec (u * w + v / 64 ≡ x * w + y / 64) → ((u ≡ x) × (v ≡ y)) ⊎ (bit_at l (u * w) v ≡ true)
      at (yes q) =
          let old = get_or l (x * w + y / 64) 0 in
          here old refl q (ap (has (v % 64)) (sym (rw q (get_or-set_same l (x * w + y / 64) (bit_or old (2 ^ (y % 64))) 0 (place_in x y h g)))) ∙ e)
      at (no q) =
          let old = get_or l (x * w + y / 64) 0 in
          inr (ap (has (v % 64)) (sym (get_or-set_other l (x * w + y / 64) (u * w + v / 64) (bit_or old (2 ^ (y % 64))) 0 q)) ∙ e)
