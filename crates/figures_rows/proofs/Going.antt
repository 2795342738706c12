-- The ones of two lists of words, in the terms of the loop that counts them: a turn more, and the end.
use Prim.Native.Nat.{ℕ, suc, ◌+◌, ◌-◌, ◌*◌, ◌^◌, ◌≤◌, ◌<◌}
use mathlib.Core.Path.{◌≡◌}
use mathlib.Core.List.{List, [], ◌∷◌}
use native.Mathlib.Omega.{arith}
use native.Mathlib.Nat.{mul-le-mul}
use lib.ListN.{length, get_or}
use lib.Bits.{bit_and, and_lt}
use lib.Count.{ones, ones-le}
use Rattle.figures_counts.specs.Ones.{ones_both, four_of, row_four, row_figures, Fits}

module _ (e i : ℕ) (l r : List ℕ) where
  pub ones_go : i < e → ones_both i (e - i) l r ≡ ones (bit_and (get_or l i 0) (get_or r i 0)) + ones_both (i + 1) (e - (i + 1)) l r
  unfolding ones_both
  ones_go h =
      let p : e - i ≡ suc (e - (i + 1)) = omega arith in
      let q : i + 1 ≡ suc i = omega arith in
      rw (p, q)

  pub ones_end : e ≤ i → ones_both i (e - i) l r ≡ 0
  unfolding ones_both
  ones_end h = let p : e - i ≡ 0 = omega arith in rw p

-- A word has at most 64 ones.
pub ones_few : (u v : ℕ) → u < 2 ^ 64 → v < 2 ^ 64 → ones (bit_and u v) ≤ 64
ones_few u v h g = ones-le 64 (bit_and u v) (and_lt 64 u v h g)

-- The four counts by what was counted.
pub same_four : (pairs : ℕ) {y n b y' n' b' : ℕ} → y ≡ y' → n ≡ n' → b ≡ b' → four_of pairs y n b ≡ four_of pairs y' n' b'
same_four pairs p q r = λ i. four_of pairs (p i) (q i) (r i)

-- Pairs of nodes are at most 1,048,576.
pub pairs_few : (a b : ℕ) → a ≤ 1024 → b ≤ 1024 → a * b ≤ 1024 * 1024
pairs_few a b h g = mul-le-mul h g

-- ── objects, then kinds ──
module _ (o k w : ℕ) (yeses noes : List ℕ) (size : (o + k ≤ 1024) × (w ≤ 16)) (room : ((o + k) * w ≤ length yeses) × ((o + k) * w ≤ length noes)) where
  all : o * w + k * w ≡ (o + k) * w
  all = omega arith

  words_few : (o + k) * w ≤ 1024 * 16
  words_few = mul-le-mul size.0 size.1

  pub objects_ask : Fits (o * k) 0 (o * w) yeses noes → (0 ≤ o * w) × (o * w ≤ 16384) × (o * w ≤ length yeses) × (o * w ≤ length noes) × Fits (o * k) 0 (o * w - 0) yeses noes
  objects_ask f =
      let e : o * w - 0 ≡ o * w = omega arith in
      (omega arith, omega (arith, all, words_few), omega (arith, all, room.0), omega (arith, all, room.1), rw e f)

  pub kinds_ask : Fits (k * k) (o * w) (k * w) yeses noes
      → (o * w ≤ o * w + k * w) × (o * w + k * w ≤ 16384) × (o * w + k * w ≤ length yeses) × (o * w + k * w ≤ length noes) × Fits (k * k) (o * w) (o * w + k * w - o * w) yeses noes
  kinds_ask f =
      let e : o * w + k * w - o * w ≡ k * w = omega arith in
      (omega arith, omega (arith, all, words_few), omega (arith, all, room.0), omega (arith, all, room.1), rw e f)

  pub eight : (p q : List ℕ) → p ≡ row_four (o * k) 0 (o * w - 0) yeses noes → q ≡ row_four (k * k) (o * w) (o * w + k * w - o * w) yeses noes
      → get_or p 0 0 ∷ get_or p 1 0 ∷ get_or p 2 0 ∷ get_or p 3 0 ∷ get_or q 0 0 ∷ get_or q 1 0 ∷ get_or q 2 0 ∷ get_or q 3 0 ∷ [] ≡ row_figures o k w yeses noes
  unfolding row_figures
  eight p q f g =
      let e : o * w - 0 ≡ o * w = omega arith in
      let d : o * w + k * w - o * w ≡ k * w = omega arith in
      rw (f, g, e, d)
