-- The computed figures are what the meaning says, no others are, they add up, and counting ones gives them.
use Prim.Native.Nat.{ℕ, zero, suc, ◌+◌, ◌*◌, ◌≤◌, ◌<◌}
use mathlib.Core.Path.{◌≡◌, refl, sym, ap₂, ◌∙◌}
use mathlib.Core.Bool.{Bool, true, false, cond, ◌&&◌, ◌||◌}
use mathlib.Core.List.{List, [], ◌∷◌, ◌++◌}
use native.Mathlib.Omega.{arith}
use borrow.Author.Tests.{not-true}
use lib.ListN.{length, get_or}
use lib.Seq.{ext_get_or}
use Rattle.theory_laws.proofs.Booleans.{contradiction, and_left, and_right, and_both}
use Rattle.theory.specs.Words.{is, isnt}
use Rattle.theory.specs.Nets.{Links, Net}
use Rattle.theory.specs.Support.{Supported}
use Rattle.theory.specs.Rows.{width, Wide, Exact, answers}
use Rattle.theory.proofs.rows.Exactly.{answers_exact}
use Rattle.figures_counts.specs.Meaning.{Counted, Holds, Gets, ObjectPair, KindPair, place, Figures}
use Rattle.figures_counts.specs.Counting.{count_rows, agree, gets, four_counts, figures}
use Rattle.figures_counts.specs.Ones.{ones_both, row_four, row_figures, Fits}
use Rattle.figures_counts.proofs.Counts.{rows_plus, rows_all}
use Rattle.figures_counts.proofs.Pairs.{rows_counted, counted_unique}
use Rattle.figures_counts.proofs.Ones.{ones_counted}

-- ── the four counts ──
yes_cell : (p q : Bool) → cond (agree true p && agree false q) 1 0 + cond (agree true p && agree true q) 1 0 ≡ cond (p && p) 1 0
yes_cell true true = refl
yes_cell true false = refl
yes_cell false q = refl

no_cell : (p q : Bool) → cond (agree false p && agree true q) 1 0 + cond (agree true p && agree true q) 1 0 ≡ cond (q && q) 1 0
no_cell true true = refl
no_cell true false = refl
no_cell false true = refl
no_cell false false = refl

either_cell : (p q : Bool) → cond (p && p) 1 0 + cond (agree false p && agree true q) 1 0 ≡ cond (p || q) 1 0
either_cell true q = refl
either_cell false true = refl
either_cell false false = refl

none_cell : (p q : Bool) → cond (agree false p && agree false q) 1 0 + cond (p || q) 1 0 ≡ 1
none_cell true true = refl
none_cell true false = refl
none_cell false true = refl
none_cell false false = refl

module _ (o k : ℕ) (ws : List ℕ) where
  abbrev a : ℕ → ℕ → Bool
  a x y = answers o k ws is x y

  abbrev b : ℕ → ℕ → Bool
  b x y = answers o k ws isnt x y

  module _ (x j : ℕ) where
    -- Yes and both are the pairs that have a yes, no and both those that have a no.
    pub yes_both : count_rows (gets o k ws true false) o k x j + count_rows (gets o k ws true true) o k x j ≡ count_rows (λ (u v : ℕ). a u v && a u v) o k x j
    yes_both = rows_plus o k (gets o k ws true false) (gets o k ws true true) (λ (u v : ℕ). a u v && a u v) x j (λ u v. yes_cell (a u v) (b u v))

    pub no_both : count_rows (gets o k ws false true) o k x j + count_rows (gets o k ws true true) o k x j ≡ count_rows (λ (u v : ℕ). b u v && b u v) o k x j
    no_both = rows_plus o k (gets o k ws false true) (gets o k ws true true) (λ (u v : ℕ). b u v && b u v) x j (λ u v. no_cell (a u v) (b u v))

    either : count_rows (λ (u v : ℕ). a u v && a u v) o k x j + count_rows (gets o k ws false true) o k x j ≡ count_rows (λ (u v : ℕ). a u v || b u v) o k x j
    either = rows_plus o k (λ (u v : ℕ). a u v && a u v) (gets o k ws false true) (λ (u v : ℕ). a u v || b u v) x j (λ u v. either_cell (a u v) (b u v))

    rest : count_rows (gets o k ws false false) o k x j + count_rows (λ (u v : ℕ). a u v || b u v) o k x j ≡ j * k
    rest = rows_plus o k (gets o k ws false false) (λ (u v : ℕ). a u v || b u v) (λ (u v : ℕ). true) x j (λ u v. none_cell (a u v) (b u v)) ∙ rows_all o k x j

    -- The four add up to all pairs.
    pub four_add : count_rows (gets o k ws false false) o k x j + count_rows (gets o k ws true false) o k x j + count_rows (gets o k ws false true) o k x j + count_rows (gets o k ws true true) o k x j ≡ j * k
    four_add = omega (arith, yes_both, either, rest)

  -- The figures about objects add up to o × k, those about kinds to k × k.
  pub objects_add : get_or (figures o k ws) 0 0 + get_or (figures o k ws) 1 0 + get_or (figures o k ws) 2 0 + get_or (figures o k ws) 3 0 ≡ o * k
  unfolding figures
  objects_add = four_add 0 o

  pub kinds_add : get_or (figures o k ws) 4 0 + get_or (figures o k ws) 5 0 + get_or (figures o k ws) 6 0 + get_or (figures o k ws) 7 0 ≡ k * k
  unfolding figures
  kinds_add = four_add o k

-- ── by counting ones ──
same_four : {p q r s p' q' r' s' : ℕ} → p ≡ p' → q ≡ q' → r ≡ r' → s ≡ s' → ◌≡◌ {A = List ℕ} (p ∷ q ∷ r ∷ s ∷ []) (p' ∷ q' ∷ r' ∷ s' ∷ [])
same_four e f g h = λ i. e i ∷ f i ∷ g i ∷ h i ∷ []

module _ (o k : ℕ) (ws : List ℕ) (net : Net o k ws) (yeses noes : List ℕ) (yes_exact : Exact o k ws is yeses) (no_exact : Exact o k ws isnt noes) (yes_wide : Wide yeses) (no-wide : Wide noes) where
  abbrev w : ℕ
  w = width (o + k)

  module _ (x j : ℕ) (h : x + j ≤ o + k) where
    yes_ones : count_rows (gets o k ws true false) o k x j + count_rows (gets o k ws true true) o k x j ≡ ones_both (x * w) (j * w) yeses yeses
    yes_ones = yes_both o k ws x j ∙ sym (ones_counted o k ws net is is yeses yeses yes_exact yes_exact yes_wide yes_wide x j h)

    no_ones : count_rows (gets o k ws false true) o k x j + count_rows (gets o k ws true true) o k x j ≡ ones_both (x * w) (j * w) noes noes
    no_ones = no_both o k ws x j ∙ sym (ones_counted o k ws net isnt isnt noes noes no_exact no_exact no-wide no-wide x j h)

    both_ones : ones_both (x * w) (j * w) yeses noes ≡ count_rows (gets o k ws true true) o k x j
    both_ones = ones_counted o k ws net is isnt yeses noes yes_exact no_exact yes_wide no-wide x j h

    pub ones_fit : Fits (j * k) (x * w) (j * w) yeses noes
    ones_fit = (omega (arith, yes_ones, both_ones), omega (arith, no_ones, both_ones), omega (arith, yes_ones, no_ones, both_ones, four_add o k ws x j))

    four_same : row_four (j * k) (x * w) (j * w) yeses noes ≡ four_counts o k ws x j
    four_same =
        let n = four_add o k ws x j in
        same_four (omega (arith, yes_ones, no_ones, both_ones, n)) (omega (arith, yes_ones, both_ones)) (omega (arith, no_ones, both_ones)) both_ones

  -- Out of exact rows come the figures of the net.
  pub rows_figures : row_figures o k w yeses noes ≡ figures o k ws
  unfolding row_figures figures
  rows_figures =
      let z : 0 * w ≡ 0 = omega arith in
      ap₂ (λ (p q : List ℕ). p ++ q) (rw z at (four_same 0 o (omega arith))) (four_same o k (omega arith))

  -- No subtraction there goes below zero.
  pub objects_fit : Fits (o * k) 0 (o * w) yeses noes
  objects_fit = let z : 0 * w ≡ 0 = omega arith in rw z at (ones_fit 0 o (omega arith))

  pub kinds_fit : Fits (k * k) (o * w) (k * w) yeses noes
  kinds_fit = ones_fit o k (omega arith)

-- ── the meaning ──
agree_holds : (p c : Bool) (P : Type 0) → (c ≡ true → P) → (P → c ≡ true) → agree p c ≡ true → Holds p P
agree_holds true c P f g e = f e
agree_holds false c P f g e = λ (x : P). contradiction (sym (not-true c e) ∙ g x)

holds_agree : (p c : Bool) (P : Type 0) → (c ≡ true → P) → (P → c ≡ true) → Holds p P → agree p c ≡ true
holds_agree true c P f g h = g h
holds_agree false true P f g h = absurd (h (f refl))
holds_agree false false P f g h = refl

module _ (o k : ℕ) (ws : List ℕ) (net : Net o k ws) where
  pub gets_is : (p q : Bool) (x y : ℕ) → x < o + k → gets o k ws p q x y ≡ true → Gets o k ws p q x y
  gets_is p q x y h e =
      let a = answers o k ws is x y in
      let b = answers o k ws isnt x y in
      let s = answers_exact o k ws net is x y h in
      let t = answers_exact o k ws net isnt x y h in
      (agree_holds p a (Supported o k (Links ws) x y is) s.0 s.1 (and_left (agree p a) (agree q b) e), agree_holds q b (Supported o k (Links ws) x y isnt) t.0 t.1 (and_right (agree p a) (agree q b) e))

  pub is_gets : (p q : Bool) (x y : ℕ) → x < o + k → Gets o k ws p q x y → gets o k ws p q x y ≡ true
  is_gets p q x y h g =
      let a = answers o k ws is x y in
      let b = answers o k ws isnt x y in
      let s = answers_exact o k ws net is x y h in
      let t = answers_exact o k ws net isnt x y h in
      and_both (agree p a) (agree q b) (holds_agree p a (Supported o k (Links ws) x y is) s.0 s.1 g.0) (holds_agree q b (Supported o k (Links ws) x y isnt) t.0 t.1 g.1)

  objects_counted : (p q : Bool) → Counted (λ (x y : ℕ). ObjectPair o k x y × Gets o k ws p q x y) (count_rows (gets o k ws p q) o k 0 o)
  objects_counted p q =
      rows_counted (gets o k ws p q) o k net.few (λ (x y : ℕ). ObjectPair o k x y × Gets o k ws p q x y) 0 o
      (λ u v c d e f g. ((omega arith, record { low = e; high = f }), gets_is p q u v (omega arith) g))
      (λ u v r. (omega arith, omega (arith, r.0.0), r.0.1.low, r.0.1.high, is_gets p q u v (omega (arith, r.0.0)) r.1))

  kinds_counted : (p q : Bool) → Counted (λ (x y : ℕ). KindPair o k x y × Gets o k ws p q x y) (count_rows (gets o k ws p q) o k o k)
  kinds_counted p q =
      rows_counted (gets o k ws p q) o k net.few (λ (x y : ℕ). KindPair o k x y × Gets o k ws p q x y) o k
      (λ u v c d e f g. ((record { low = c; high = d }, record { low = e; high = f }), gets_is p q u v d g))
      (λ u v r. (r.0.0.low, r.0.0.high, r.0.1.low, r.0.1.high, is_gets p q u v r.0.0.high r.1))

  -- The computed figures are the figures.
  pub figures_right : Figures o k ws (figures o k ws)
  unfolding figures
  figures_right = record { eight = refl; objects = objects; kinds = kinds }
    where
      objects : (p q : Bool) → Counted (λ (x y : ℕ). ObjectPair o k x y × Gets o k ws p q x y) (get_or (four_counts o k ws 0 o ++ four_counts o k ws o k) (place p q) 0)
      objects true true = objects_counted true true
      objects true false = objects_counted true false
      objects false true = objects_counted false true
      objects false false = objects_counted false false

      kinds : (p q : Bool) → Counted (λ (x y : ℕ). KindPair o k x y × Gets o k ws p q x y) (get_or (four_counts o k ws 0 o ++ four_counts o k ws o k) (4 + place p q) 0)
      kinds true true = kinds_counted true true
      kinds true false = kinds_counted true false
      kinds false true = kinds_counted false true
      kinds false false = kinds_counted false false

eight_same : (l m : List ℕ) → length l ≡ 8 → length m ≡ 8 → ((i : ℕ) → i < 8 → get_or l i 0 ≡ get_or m i 0) → l ≡ m
eight_same l m e f g = ext_get_or 0 l m (e ∙ sym f) (λ i h. g i (omega (arith, e)))

-- No other list is.
pub figures_unique : (o k : ℕ) (ws l m : List ℕ) → Figures o k ws l → Figures o k ws m → l ≡ m
figures_unique o k ws l m f g = eight_same l m f.eight g.eight at
  where
    object : (p q : Bool) → get_or l (place p q) 0 ≡ get_or m (place p q) 0
    object p q = counted_unique (λ (x y : ℕ). ObjectPair o k x y × Gets o k ws p q x y) (get_or l (place p q) 0) (get_or m (place p q) 0) (f.objects p q) (g.objects p q)

    kind : (p q : Bool) → get_or l (4 + place p q) 0 ≡ get_or m (4 + place p q) 0
    kind p q = counted_unique (λ (x y : ℕ). KindPair o k x y × Gets o k ws p q x y) (get_or l (4 + place p q) 0) (get_or m (4 + place p q) 0) (f.kinds p q) (g.kinds p q)

    at : (i : ℕ) → i < 8 → get_or l i 0 ≡ get_or m i 0
    at zero h = object false false
    at (suc zero) h = object true false
    at (suc (suc zero)) h = object false true
    at (suc (suc (suc zero))) h = object true true
    at (suc (suc (suc (suc zero)))) h = kind false false
    at (suc (suc (suc (suc (suc zero))))) h = kind true false
    at (suc (suc (suc (suc (suc (suc zero)))))) h = kind false true
    at (suc (suc (suc (suc (suc (suc (suc zero))))))) h = kind true true
    at (suc (suc (suc (suc (suc (suc (suc (suc i)))))))) h = absurd (omega arith)
