-- What every step but the clearing does to a list of 64-bit words: it sets bits among the first z words, and nothing else.
use Prim.Native.Nat.{ℕ, zero, suc, ◌+◌, ◌/◌, ◌%◌, ◌^◌, ◌≤◌, ◌<◌}
use mathlib.Core.Path.{◌≡◌, refl, ◌∙◌}
use mathlib.Core.Bool.{Bool, true, false, cond}
use mathlib.Core.List.{List}
use native.Mathlib.Omega.{arith}
use native.Mathlib.Nat.{le_refl}
use native.Mathlib.Decide.{ℕ_discrete}
use lib.ListN.{length, get_or, set, length-set}
use lib.Seq.{get_or-set_same, get_or-set_other}
use lib.Pow.{pow-lt}
use lib.Bits.{bit_or, or_lt}
use Rattle.theory_laws.proofs.Bits.{bit_or_lem}
use Rattle.theory.specs.Marks.{has}
use Rattle.rows_steps.specs.Rows.{put, gain}

-- Every number of a list is one of 64 bits.
abbrev pub Wide : List ℕ → Type 0
Wide l = (i : ℕ) → get_or l i 0 < 2 ^ 64

pub record Grown (z : ℕ) (l l' : List ℕ) : Type 0 where
  pub long : length l' ≡ length l
  pub past : (i : ℕ) → z ≤ i → get_or l' i 0 ≡ get_or l i 0
  pub wide : Wide l → Wide l'
  pub keeps : (i j : ℕ) → has j (get_or l i 0) ≡ true → has j (get_or l' i 0) ≡ true

pub grown_none : {z : ℕ} {l : List ℕ} → Grown z l l
grown_none = record { long = refl; past = λ i h. refl; wide = λ f. f; keeps = λ i j e. e }

pub grown_then : {z : ℕ} {l l' l'' : List ℕ} → Grown z l l' → Grown z l' l'' → Grown z l l''
grown_then f g = record {
  long = g.long ∙ f.long;
  past = λ i h. g.past i h ∙ f.past i h;
  wide = λ h. g.wide (f.wide h);
  keeps = λ i j e. g.keeps i j (f.keeps i j e);
}

pub grown_if : {z : ℕ} {l l' : List ℕ} (p : Bool) → (p ≡ true → Grown z l l') → Grown z l (cond p l' l)
grown_if true g = g refl
grown_if false g = grown_none

or_keeps : (j a b : ℕ) → has j a ≡ true → has j (bit_or a b) ≡ true
or_keeps j a b e = bit_or_lem j a b ∙ rw e

-- One word more gains bits.
pub grown_one : {z : ℕ} {l₀ l : List ℕ} → Grown z l₀ l → (i u : ℕ) → i < z → i < length l → (Wide l₀ → u < 2 ^ 64) → Grown z l₀ (set l i (bit_or (get_or l i 0) u))
grown_one {l₀} {l} t i u h g f = record {
  long = length-set l i (bit_or (get_or l i 0) u) ∙ t.long;
  past = λ q r. get_or-set_other l i q (bit_or (get_or l i 0) u) 0 (λ (e : q ≡ i). omega arith) ∙ t.past q r;
  wide = λ d q. at_wide (t.wide d) (f d) q (ℕ_discrete q i);
  keeps = λ q j e. at_keeps q j (t.keeps q j e) (ℕ_discrete q i);
}
  where
    at_wide : Wide l → u < 2 ^ 64 → (q : ℕ) → Dec (q ≡ i) → get_or (set l i (bit_or (get_or l i 0) u)) q 0 < 2 ^ 64
    at_wide d k q (yes e) = rw (e, get_or-set_same l i (bit_or (get_or l i 0) u) 0 g) (or_lt 64 (get_or l i 0) u (d i) k)
    at_wide d k q (no e) = rw (get_or-set_other l i q (bit_or (get_or l i 0) u) 0 e) (d q)

    at_keeps : (q j : ℕ) → has j (get_or l q 0) ≡ true → Dec (q ≡ i) → has j (get_or (set l i (bit_or (get_or l i 0) u)) q 0) ≡ true
    at_keeps q j b (yes e) = rw (e, get_or-set_same l i (bit_or (get_or l i 0) u) 0 g) (or_keeps j (get_or l i 0) u (rw e at b))
    at_keeps q j b (no e) = rw (get_or-set_other l i q (bit_or (get_or l i 0) u) 0 e) b

pub put_grown : (z a y : ℕ) (l : List ℕ) → a + y / 64 < z → z ≤ length l → Grown z l (put a y l)
unfolding put
put_grown z a y l h g = grown_one grown_none (a + y / 64) (2 ^ (y % 64)) h (omega arith) (λ d. pow-lt {j = 64} (omega arith))

-- Some words more gain those of another list.
pub grown_gain : {z : ℕ} {l₀ l : List ℕ} → Grown z l₀ l → (a b j : ℕ) (r : List ℕ) → (Wide l₀ → Wide r) → a + j ≤ z → z ≤ length l₀ → Grown z l₀ (gain a b j r l)
unfolding gain
grown_gain t a b zero r f h g = t
grown_gain {z} {l₀} {l} t a b (suc j) r f h g =
    let one = grown_one t a (get_or r b 0) (omega arith) (omega (arith, t.long)) (λ d. f d b) in
    grown_gain {z = z} {l₀ = l₀} {l = set l a (bit_or (get_or l a 0) (get_or r b 0))} one (suc a) (suc b) j r f (omega arith) g

-- They are words of 64 bits, if both lists have such.
pub gain_wide : (a b j : ℕ) (r l : List ℕ) → a + j ≤ length l → Wide r → Wide l → Wide (gain a b j r l)
gain_wide a b j r l h f = (grown_gain {z = length l} {l₀ = l} {l = l} grown_none a b j r (λ d. f) h (le_refl (length l))).wide
