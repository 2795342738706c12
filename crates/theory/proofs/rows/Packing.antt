-- Answers packed into words: bit t of word i of row x is answer i times 64 plus t about x, and no other list of 64-bit words has those bits.
use Prim.Native.Nat.{ℕ, zero, suc, ◌+◌, ◌-◌, ◌*◌, ◌/◌, ◌%◌, ◌^◌, ◌≤◌, ◌<◌}
use mathlib.Core.Path.{◌≡◌, refl, sym, ap, ◌∙◌}
use mathlib.Core.Bool.{Bool, true, false, cond}
use mathlib.Core.List.{List, ◌++◌}
use native.Mathlib.Omega.{arith}
use native.Mathlib.Nat.{pow-suc, pow-zero, div-add-mod', mod-lt, div-lt_iff_lt-mul}
use native.Mathlib.Decide.{dec_lt, ℕ_discrete}
use lib.Dec.{eqb}
use lib.ListN.{length, get_or, drop, length-append, length-drop, get_or-append}
use lib.Seq.{get_or-append-add, get_or-drop, ext_get_or}
use Rattle.theory_laws.proofs.Bits.{bit_first, bit_next, bits_alike}
use Rattle.theory.specs.Marks.{has}
use Rattle.theory.specs.Rows.{Wide, bit_at, bits_of, words_of, rows_of}

-- ── one word ──
low_bit : (v : ℕ) (p : Bool) → eqb ((v * 2 + cond p 1 0) % 2) 1 ≡ p
low_bit v true = let e : (v * 2 + 1) % 2 ≡ 1 = omega arith in rw e
low_bit v false = let e : (v * 2 + 0) % 2 ≡ 0 = omega arith in rw e

rest_bits : (v : ℕ) (p : Bool) → (v * 2 + cond p 1 0) / 2 ≡ v
rest_bits v true = omega arith
rest_bits v false = omega arith

packed_lt : (v j : ℕ) (p : Bool) → v < 2 ^ j → v * 2 + cond p 1 0 < 2 ^ suc j
packed_lt v j true h = simp pow-suc (omega arith)
packed_lt v j false h = simp pow-suc (omega arith)

module _ (f : ℕ → Bool) where
  pub bits_has : (b j t : ℕ) → t < j → has t (bits_of f b j) ≡ f (b + t)
  unfolding bits_of
  bits_has b zero t h = absurd (omega arith)
  bits_has b (suc j) zero h = let e : b + 0 ≡ b = omega arith in bit_first (bits_of f (suc b) j * 2 + cond (f b) 1 0) ∙ low_bit (bits_of f (suc b) j) (f b) ∙ ap f (sym e)
  bits_has b (suc j) (suc t) h =
      let e : suc b + t ≡ b + suc t = omega arith in
      bit_next (bits_of f (suc b) j * 2 + cond (f b) 1 0) t ∙ ap (has t) (rest_bits (bits_of f (suc b) j) (f b)) ∙ bits_has (suc b) j t (omega arith) ∙ ap f e

  pub bits_lt : (b j : ℕ) → bits_of f b j < 2 ^ j
  unfolding bits_of
  bits_lt b zero = simp pow-zero (omega arith)
  bits_lt b (suc j) = packed_lt (bits_of f (suc b) j) j (f b) (bits_lt (suc b) j)

  -- ── the words of one row ──
  words_length : (b j : ℕ) → length (words_of f b j) ≡ j
  unfolding words_of
  words_length b zero = refl
  words_length b (suc j) = ap suc (words_length (b + 64) j)

  words_at : (b j i : ℕ) → i < j → get_or (words_of f b j) i 0 ≡ bits_of f (b + i * 64) 64
  unfolding words_of
  words_at b zero i h = absurd (omega arith)
  words_at b (suc j) zero h = let e : b + 0 * 64 ≡ b = omega arith in rw e
  words_at b (suc j) (suc i) h = let e : b + suc i * 64 ≡ b + 64 + i * 64 = omega arith in rw e (words_at (b + 64) j i (omega arith))

-- ── all rows ──
module _ (f : ℕ → ℕ → Bool) (w : ℕ) where
  pub rows_length : (x j : ℕ) → length (rows_of f w x j) ≡ j * w
  unfolding rows_of
  rows_length x zero = omega arith
  rows_length x (suc j) = let e = rows_length (suc x) j in simp (length-append, words_length) (omega arith)

  pub rows_at : (x j u i : ℕ) → u < j → i < w → get_or (rows_of f w x j) (u * w + i) 0 ≡ bits_of (f (x + u)) (i * 64) 64
  unfolding rows_of
  rows_at x zero u i h g = absurd (omega arith)
  rows_at x (suc j) zero i h g =
      let e : 0 * w + i ≡ i = omega arith in
      let d : x + 0 ≡ x = omega arith in
      let z : 0 + i * 64 ≡ i * 64 = omega arith in
      rw (e, d) (get_or-append (words_of (f x) 0 w) (rows_of f w (suc x) j) 0 i (rw (words_length (f x) 0 w) g) ∙ words_at (f x) 0 w i g ∙ ap (λ (q : ℕ). bits_of (f x) q 64) z)
  rows_at x (suc j) (suc u) i h g =
      let e : suc u * w + i ≡ length (words_of (f x) 0 w) + (u * w + i) = omega (arith, words_length (f x) 0 w) in
      let d : x + suc u ≡ suc x + u = omega arith in
      rw (e, d) (get_or-append-add (words_of (f x) 0 w) (rows_of f w (suc x) j) (u * w + i) 0 ∙ rows_at (suc x) j u i (omega arith) g)

  -- Bit y of row x.
  pub rows_bit : (n x y : ℕ) → x < n → y < w * 64 → bit_at (rows_of f w 0 n) (x * w) y ≡ f x y
  rows_bit n x y h g =
      let e : y / 64 * 64 + y % 64 ≡ y = omega arith in
      let d : 0 + x ≡ x = omega arith in
      ap (has (y % 64)) (rows_at 0 n x (y / 64) h (omega arith) ∙ ap (λ (q : ℕ). bits_of (f q) (y / 64 * 64) 64) d) ∙ bits_has (f x) (y / 64 * 64) 64 (y % 64) (omega arith) ∙ ap (f x) e

  -- A list of 64-bit words with these bits in n rows, and behind them what stands in l, is no other.
  pub rows_same : (n : ℕ) (l l' : List ℕ) → n * w ≤ length l → length l' ≡ length l → ((i : ℕ) → n * w ≤ i → get_or l' i 0 ≡ get_or l i 0) → Wide l'
      → ((x y : ℕ) → x < n → y < w * 64 → bit_at l' (x * w) y ≡ f x y) → l' ≡ rows_of f w 0 n ++ drop (n * w) l
  rows_same n l l' room long past wide bits =
      ext_get_or 0 l' (rows_of f w 0 n ++ drop (n * w) l) (simp (length-append, rows_length, length-drop) (omega arith)) (λ i h. at i h (dec_lt i (n * w)))
    where
      word : (x i : ℕ) → x < n → i < w → get_or l' (x * w + i) 0 ≡ get_or (rows_of f w 0 n) (x * w + i) 0
      word x i h g =
          let d : 0 + x ≡ x = omega arith in
          let e : get_or (rows_of f w 0 n) (x * w + i) 0 ≡ bits_of (f x) (i * 64) 64 = rows_at 0 n x i h g ∙ ap (λ (q : ℕ). bits_of (f q) (i * 64) 64) d in
          bits_alike 64 (get_or l' (x * w + i) 0) (bits_of (f x) (i * 64) 64) (wide (x * w + i)) (bits_lt (f x) (i * 64) 64)
          (λ t k.
          let p : (i * 64 + t) / 64 ≡ i = omega arith in
          let q : (i * 64 + t) % 64 ≡ t = omega arith in
          let b : bit_at l' (x * w) (i * 64 + t) ≡ f x (i * 64 + t) = bits x (i * 64 + t) h (omega arith) in
          rw (p, q) at b ∙ sym (bits_has (f x) (i * 64) 64 t k))
          ∙ sym e

      at : (i : ℕ) → i < length l' → Dec (i < n * w) → get_or l' i 0 ≡ get_or (rows_of f w 0 n ++ drop (n * w) l) i 0
      at i h (yes k) =
          let pos : 0 < w = some w (ℕ_discrete w 0) i k in
          let e : i / w * w + i % w ≡ i = div-add-mod' i w in
          let lt : i / w < n = (div-lt_iff_lt-mul pos).1 k in
          rw e at (word (i / w) (i % w) lt (mod-lt i pos)) ∙ sym (get_or-append (rows_of f w 0 n) (drop (n * w) l) 0 i (rw (rows_length 0 n) k))
        where
          some : (w : ℕ) → Dec (w ≡ 0) → (i : ℕ) → i < n * w → 0 < w
          some w (yes e) i k = let z : n * w ≡ 0 = ap (λ (q : ℕ). n * q) e ∙ omega arith in absurd (omega arith)
          some w (no e) i k = omega arith
      at i h (no k) =
          let e : i ≡ length (rows_of f w 0 n) + (i - n * w) = omega (arith, rows_length 0 n) in
          let z : n * w + (i - n * w) ≡ i = omega arith in
          past i (omega arith)
          ∙ sym (ap (λ (q : ℕ). get_or (rows_of f w 0 n ++ drop (n * w) l) q 0) e ∙ get_or-append-add (rows_of f w 0 n) (drop (n * w) l) (i - n * w) 0
          ∙ get_or-drop (n * w) l (i - n * w) 0 ∙ ap (λ (q : ℕ). get_or l q 0) z)
