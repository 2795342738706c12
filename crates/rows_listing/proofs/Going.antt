-- The loops that count and write, in the terms of the code: a turn more, and the end.
use Prim.Native.Nat.{ℕ, suc, ◌+◌, ◌-◌, ◌*◌, ◌^◌, ◌≤◌, ◌<◌}
use mathlib.Core.Path.{◌≡◌, refl, sym, ap, ◌∙◌}
use mathlib.Core.Bool.{Bool, true, false, cond}
use mathlib.Core.List.{List, [], ◌∷◌, ◌++◌}
use native.Mathlib.Omega.{arith}
use lib.ListN.{length, get_or, set, length-append}
use lib.Bits.{bit_and, bit_or}
use lib.Count.{ones, count_trailing_zeros}
use Rattle.std.specs.List.{between}
use Rattle.std.proofs.lemmas.List.Edits.{length-between, get_or-between}
use Rattle.theory_laws.specs.Over.{over}
use Rattle.theory_laws.proofs.Over.{put_one, put_two}
use Rattle.theory.specs.Words.{is, isnt, word}
use Rattle.theory.specs.Marks.{has}
use Rattle.rows_steps.specs.Members.{members}
use Rattle.rows_steps.proofs.Members.{members_next, members_none}
use Rattle.rows_steps.specs.Listing.{pair, word_pairs, row_pairs, all_pairs, ones_from}
use Rattle.theory.specs.Rows.{Wide}
use Rattle.rows_steps.proofs.Listing.{row_size}

-- ── counting ──
module _ (a w j : ℕ) (l : List ℕ) where
  pub ones_go : j < w → ones_from (a + j) (w - j) l ≡ ones (get_or l (a + j) 0) + ones_from (a + (j + 1)) (w - (j + 1)) l
  unfolding ones_from
  ones_go h =
      let e : w - j ≡ suc (w - (j + 1)) = omega arith in
      let f : a + (j + 1) ≡ suc (a + j) = omega arith in
      rw (e, f)

  pub ones_end : w ≤ j → ones_from (a + j) (w - j) l ≡ 0
  unfolding ones_from
  ones_end h = let e : w - j ≡ 0 = omega arith in rw e

pub ones_start : (a w : ℕ) (l : List ℕ) → ones_from (a + 0) (w - 0) l ≡ ones_from a w l
ones_start a w l =
    let e : w - 0 ≡ w = omega arith in
    let f : a + 0 ≡ a = omega arith in
    rw (e, f)

-- The words of a row, out of the part of the list that is the row.
module _ (a w : ℕ) (l : List ℕ) (fits : a + w ≤ length l) where
  pub row_word : (j : ℕ) → j < length (between a (a + w) l) → (j < w) × (get_or (between a (a + w) l) j 0 ≡ get_or l (a + j) 0)
  row_word j h = let b : j < w = omega (arith, length-between l a (a + w) fits) in (b, get_or-between l a (a + w) j 0 (omega arith))

  pub row_words_end : (j : ℕ) → length (between a (a + w) l) ≤ j → w ≤ j
  row_words_end j h = omega (arith, length-between l a (a + w) fits)

module _ (w n x : ℕ) (yeses noes : List ℕ) where
  pub all_go : x < n → all_pairs w x (n - x) yeses noes ≡ row_pairs x (x * w) 0 w yeses noes ++ all_pairs w (x + 1) (n - (x + 1)) yeses noes
  unfolding all_pairs
  all_go h =
      let e : n - x ≡ suc (n - (x + 1)) = omega arith in
      let f : x + 1 ≡ suc x = omega arith in
      rw (e, f)

  pub all_end : n ≤ x → all_pairs w x (n - x) yeses noes ≡ []
  unfolding all_pairs
  all_end h = let e : n - x ≡ 0 = omega arith in rw e

  -- A row more is counted.
  pub count_go : x < n → Wide yeses → Wide noes
      → length (all_pairs w x (n - x) yeses noes) ≡ (ones_from (x * w) w yeses + ones_from (x * w) w noes) + length (all_pairs w (x + 1) (n - (x + 1)) yeses noes)
  count_go h f g =
      ap length (all_go h) ∙ length-append (row_pairs x (x * w) 0 w yeses noes) (all_pairs w (x + 1) (n - (x + 1)) yeses noes)
      ∙ ap (λ (q : ℕ). q + length (all_pairs w (x + 1) (n - (x + 1)) yeses noes)) (row_size x (x * w) 0 w (x * w) yeses noes f g (omega arith))

-- ── one pair ──
module _ (x y : ℕ) (l : List ℕ) where
  first : word x y is ≡ x * 2048 + y * 2
  first = omega arith

  parts : (p q : Bool) → pair x y p q ≡ cond p ((x * 2048 + y * 2) ∷ []) [] ++ cond q ((x * 2048 + y * 2 + 1) ∷ []) []
  parts p q = ap (λ (i : ℕ). cond p (i ∷ []) [] ++ cond q (word x y isnt ∷ []) []) first

  module _ (p q : Bool) (fits : length (pair x y p q) ≤ length l) where
    pub yes_room : p ≡ true → 1 ≤ length l
    yes_room e = at q (rw e at fits)
      where
        at : (q : Bool) → length (pair x y true q) ≤ length l → 1 ≤ length l
        at true h = omega arith
        at false h = h

    pub no_room : q ≡ true → 1 ≤ length l
    no_room e = at p (rw e at fits)
      where
        at : (p : Bool) → length (pair x y p true) ≤ length l → 1 ≤ length l
        at true h = omega arith
        at false h = h

    pub both_room_lem : p ≡ true → q ≡ true → 2 ≤ length l
    both_room_lem e f = rw (e, f) at fits

    pub pair_both : p ≡ true → q ≡ true → (2 ≡ length (pair x y p q)) × (set (set l 0 (x * 2048 + y * 2)) 1 (x * 2048 + y * 2 + 1) ≡ over (pair x y p q) l)
    pair_both e f =
        let z : pair x y p q ≡ (x * 2048 + y * 2) ∷ (x * 2048 + y * 2 + 1) ∷ [] = parts p q ∙ rw (e, f) in
        (ap length (sym z), put_two l (x * 2048 + y * 2) (x * 2048 + y * 2 + 1) (both_room_lem e f) ∙ ap (λ (r : List ℕ). over r l) (sym z))

    pub pair_yes : p ≡ true → q ≡ false → (1 ≡ length (pair x y p q)) × (set l 0 (x * 2048 + y * 2) ≡ over (pair x y p q) l)
    pair_yes e f =
        let z : pair x y p q ≡ (x * 2048 + y * 2) ∷ [] = parts p q ∙ rw (e, f) in
        (ap length (sym z), put_one l (x * 2048 + y * 2) (yes_room e) ∙ ap (λ (r : List ℕ). over r l) (sym z))

    pub pair_no : p ≡ false → q ≡ true → (1 ≡ length (pair x y p q)) × (set l 0 (x * 2048 + y * 2 + 1) ≡ over (pair x y p q) l)
    pair_no e f = rw (e, f) (refl, put_one l (x * 2048 + y * 2 + 1) (no_room f))

-- ── the nodes of two words ──
module _ (v : ℕ) (some : v ≡ 0 → ⊥) (small : v < 2 ^ 64) where
  pub pairs_go : (x base a b : ℕ)
      → word_pairs x base a b (members v) ≡ pair x (base + count_trailing_zeros 64 v) (has (count_trailing_zeros 64 v) a) (has (count_trailing_zeros 64 v) b) ++ word_pairs x base a b (members (bit_and v (v - 1)))
  unfolding word_pairs
  pairs_go x base a b = rw (members_next v (omega arith) small)

pub pairs_end : (x base a b v : ℕ) → v ≡ 0 → word_pairs x base a b (members v) ≡ []
unfolding word_pairs
pairs_end x base a b v e = rw (e, members_none)

-- ── the words of two rows ──
module _ (x a w i : ℕ) (yeses noes : List ℕ) where
  pub row_go : i < w → row_pairs x a i (w - i) yeses noes
      ≡ word_pairs x (i * 64) (get_or yeses (a + i) 0) (get_or noes (a + i) 0) (members (bit_or (get_or yeses (a + i) 0) (get_or noes (a + i) 0))) ++ row_pairs x a (i + 1) (w - (i + 1)) yeses noes
  unfolding row_pairs
  row_go h =
      let e : w - i ≡ suc (w - (i + 1)) = omega arith in
      let f : i + 1 ≡ suc i = omega arith in
      rw (e, f)

  pub row_end : w ≤ i → row_pairs x a i (w - i) yeses noes ≡ []
  unfolding row_pairs
  row_end h = let e : w - i ≡ 0 = omega arith in rw e
