-- The figures out of rows that were filled over zeros.
use Prim.Native.Nat.{ℕ, zero, suc, ◌+◌, ◌*◌, ◌^◌, ◌≤◌, ◌<◌}
use mathlib.Core.Path.{◌≡◌, sym, ap, ◌∙◌}
use mathlib.Core.Bool.{Bool}
use mathlib.Core.List.{List, [], ◌∷◌, ◌++◌}
use native.Mathlib.Omega.{arith}
use lib.Dec.{lit<}
use lib.ListN.{length, drop, replicate, length-append, length-drop, length-replicate}
use lib.Seq.{get_or-drop}
use Rattle.theory.specs.Words.{Sign, is, isnt}
use Rattle.theory.specs.Nets.{Net}
use Rattle.theory.specs.Origins.{chosen, NetFrom}
use Rattle.theory.specs.Rows.{width, Wide, Exact, answers, bits_of, words_of, rows_of, supported_rows}
use Rattle.theory.proofs.origins.Statements.{chosen_net}
use Rattle.theory.proofs.rows.Packing.{bits_lt}
use Rattle.theory.proofs.rows.Exactly.{rows_small, supported_rows_length, filled_exact}
use Rattle.figures_counts.specs.Counting.{figures}
use Rattle.figures_counts.specs.Ones.{row_figures, Fits}
use Rattle.figures_counts.proofs.Figures.{rows_figures, objects_fit, kinds_fit}

-- ── words of 64 bits ──
wide_none : Wide []
wide_none i = lit< tt

wide_cons : (v : ℕ) (l : List ℕ) → v < 2 ^ 64 → Wide l → Wide (v ∷ l)
wide_cons v l h g zero = h
wide_cons v l h g (suc i) = g i

wide_append : (a b : List ℕ) → Wide a → Wide b → Wide (a ++ b)
wide_append [] b f g i = g i
wide_append (v ∷ a) b f g zero = f 0
wide_append (v ∷ a) b f g (suc i) = wide_append a b (λ j. f (suc j)) g i

wide_drop : (m : ℕ) (l : List ℕ) → Wide l → Wide (drop m l)
wide_drop m l f i = rw (get_or-drop m l i 0) (f (m + i))

wide_zeros : (z : ℕ) → Wide (replicate z 0)
wide_zeros zero i = lit< tt
wide_zeros (suc z) zero = lit< tt
wide_zeros (suc z) (suc i) = wide_zeros z i

words_wide : (f : ℕ → Bool) (b j : ℕ) → Wide (words_of f b j)
unfolding words_of
words_wide f b zero = wide_none
words_wide f b (suc j) = wide_cons (bits_of f b 64) (words_of f (b + 64) j) (bits_lt f b 64) (words_wide f (b + 64) j)

rows_wide : (f : ℕ → ℕ → Bool) (w x j : ℕ) → Wide (rows_of f w x j)
unfolding rows_of
rows_wide f w x zero = wide_none
rows_wide f w x (suc j) = wide_append (words_of (f x) 0 w) (rows_of f w (suc x) j) (words_wide (f x) 0 w) (rows_wide f w (suc x) j)

-- ── the rows of a net ──
module _ (o k n : ℕ) (words : List ℕ) (set : ℕ) (net : NetFrom o k words) (size : n ≡ o + k) where
  abbrev ws : List ℕ
  ws = chosen set words

  fine : Net o k (chosen set words)
  fine = chosen_net set o k words net

  small : n * width n ≤ 1024 * 16
  small = rows_small n (omega (arith, net.few, size))

  -- What the filling asks.
  pub fill_ask : NetFrom o k words × (((n ≡ o + k) × (width n ≡ width (o + k))) × ((n * width n ≤ 16384) × (n * width n ≤ 16384)))
  fill_ask = (net, ((size, ap width size), (small, small)))

  -- Rows that it left over zeros.
  pub record Filled (s : Sign) (l : List ℕ) : Type 0 where
    pub rows : l ≡ supported_rows o k ws s ++ drop (n * width n) (replicate 16384 0)

  module _ (s : Sign) (l : List ℕ) (f : Filled s l) where
    filled_long : length l ≡ 16384
    filled_long =
        let e = supported_rows_length o k ws s in
        let z : n * width n ≡ (o + k) * width (o + k) = ap (λ (q : ℕ). q * width q) size in
        ap length f.rows ∙ simp (length-append, length-drop, length-replicate) (omega (arith, e, z, small))

    filled_wide : Wide l
    unfolding supported_rows
    filled_wide =
        rw f.rows
        (wide_append (rows_of (answers o k ws s) (width (o + k)) 0 (o + k)) (drop (n * width n) (replicate 16384 0)) (rows_wide (answers o k ws s) (width (o + k)) 0 (o + k))
        (wide_drop (n * width n) (replicate 16384 0) (wide_zeros 16384)))

    filled_is : Exact o k ws s l
    filled_is = rw f.rows (filled_exact o k ws fine s (drop (n * width n) (replicate 16384 0)))

  module _ (ys ns : List ℕ) (f : Filled is ys) (g : Filled isnt ns) where
    same : width (o + k) ≡ width n
    same = ap width (sym size)

    -- What the counting asks, and what it gives.
    pub figures_ask : ((o + k ≤ 1024) × (width n ≤ 16))
        × ((((o + k) * width n ≤ length ys) × ((o + k) * width n ≤ length ns)) × (Fits (o * k) 0 (o * width n) ys ns × Fits (k * k) (o * width n) (k * width n) ys ns))
    figures_ask =
        let h = net.few in
        let z : (o + k) * width n ≡ n * width n = ap (λ (q : ℕ). q * width n) (sym size) in
        let p = objects_fit o k ws fine ys ns (filled_is is ys f) (filled_is isnt ns g) (filled_wide is ys f) (filled_wide isnt ns g) in
        let q = kinds_fit o k ws fine ys ns (filled_is is ys f) (filled_is isnt ns g) (filled_wide is ys f) (filled_wide isnt ns g) in (
          (h, omega (arith, h, size)),
          ((omega (arith, z, small, filled_long is ys f), omega (arith, z, small, filled_long isnt ns g)), (rw same at p, rw same at q)),
        )

    pub figures_are : {r : List ℕ} → r ≡ row_figures o k (width n) ys ns → r ≡ figures o k ws
    figures_are e = e ∙ rw size (rows_figures o k ws fine ys ns (filled_is is ys f) (filled_is isnt ns g) (filled_wide is ys f) (filled_wide isnt ns g))
