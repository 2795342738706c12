-- Each figure told by the completed list, and the words of the list counted by the figures.
use Prim.Native.Nat.{ℕ, zero, suc, ◌+◌, ◌≤◌, ◌<◌}
use mathlib.Core.Path.{◌≡◌, refl, sym, ap, ap₂, ◌∙◌}
use mathlib.Core.Bool.{Bool, true, false, cond, ◌&&◌}
use mathlib.Core.List.{List, [], ◌∷◌, ◌++◌, Memᴰ}
use mathlib.Core.Logic.{◌↔◌}
use native.Mathlib.Omega.{arith}
use borrow.Author.Tests.{lt-ltb, le-ltb, le-leb, lt-leb}
use lib.Dec.{eqb, ltb, leb}
use lib.ListN.{get_or}
use Rattle.theory.specs.Words.{Sign, is, isnt, sign_number, word}
use Rattle.theory.specs.Nets.{Kind, Links, Net}
use Rattle.theory.specs.Support.{Supported}
use Rattle.theory.specs.Marks.{U, F, has, marker_of}
use Rattle.theory.specs.Completion.{Lists, full_marks, cell, row, rows, complete}
use Rattle.theory.proofs.completion.Ascending.{tail_word, head_word, parity_word, sign_word}
use Rattle.theory.specs.Rows.{answers}
use Rattle.figures_counts.specs.Meaning.{Holds, Gets, ObjectPair, KindPair, place, Figures}
use Rattle.figures_counts.specs.Counting.{count, count_rows, figures}
use Rattle.figures_counts.specs.Listed.{Listed, Tied, amount, about}
use Rattle.figures_counts.proofs.Counts.{count_same, rows_same, rows_none, rows_join}
use Rattle.figures_counts.proofs.Pairs.{counted_as}
use Rattle.figures_counts.proofs.Figures.{yes_both, no_both}

-- ── each figure ──
holds_as : (p : Bool) (P Q : Type 0) → (P → Q) → (Q → P) → Holds p P → Holds p Q
holds_as true P Q f g h = f h
holds_as false P Q f g h = λ (x : Q). h (g x)

module _ (o k : ℕ) (ws out : List ℕ) (net : Net o k ws) (c : Lists o k ws out) where
  in_list : (x y : ℕ) (s : Sign) → y < 1024 → Memᴰ (word x y s) out ↔ Supported o k (Links ws) x y s
  in_list x y s h = rw (tail_word x y s h, head_word x y s h, sign_word x y s) at (c.exact (word x y s))

  to_list : (p q : Bool) (x y : ℕ) → y < 1024 → Gets o k ws p q x y → Listed out p q x y
  to_list p q x y h g =
      let a = in_list x y is h in
      let b = in_list x y isnt h in
      (holds_as p (Supported o k (Links ws) x y is) (Memᴰ (word x y is) out) a.1 a.0 g.0, holds_as q (Supported o k (Links ws) x y isnt) (Memᴰ (word x y isnt) out) b.1 b.0 g.1)

  from_list : (p q : Bool) (x y : ℕ) → y < 1024 → Listed out p q x y → Gets o k ws p q x y
  from_list p q x y h g =
      let a = in_list x y is h in
      let b = in_list x y isnt h in
      (holds_as p (Memᴰ (word x y is) out) (Supported o k (Links ws) x y is) a.0 a.1 g.0, holds_as q (Memᴰ (word x y isnt) out) (Supported o k (Links ws) x y isnt) b.0 b.1 g.1)

  below : (y : ℕ) → Kind o k y → y < 1024
  below y h = omega (arith, h.high, net.few)

  -- Each figure of a net is the number of pairs of which its completed list says so.
  pub figures_tied : (l : List ℕ) → Figures o k ws l → Tied o k out l
  figures_tied l f = record {
    objects = λ p q. counted_as (λ (x y : ℕ). ObjectPair o k x y × Gets o k ws p q x y) (λ (x y : ℕ). ObjectPair o k x y × Listed out p q x y) (get_or l (place p q) 0)
        (λ x y r. (r.0, to_list p q x y (below y r.0.1) r.1)) (λ x y r. (r.0, from_list p q x y (below y r.0.1) r.1)) (f.objects p q);
    kinds = λ p q. counted_as (λ (x y : ℕ). KindPair o k x y × Gets o k ws p q x y) (λ (x y : ℕ). KindPair o k x y × Listed out p q x y) (get_or l (4 + place p q) 0)
        (λ x y r. (r.0, to_list p q x y (below y r.0.1) r.1)) (λ x y r. (r.0, from_list p q x y (below y r.0.1) r.1)) (f.kinds p q);
  }

-- ── the words of the list ──
amount_append : (f : ℕ → Bool) (a b : List ℕ) → amount f (a ++ b) ≡ amount f a + amount f b
unfolding amount
amount_append f [] b = omega arith
amount_append f (w ∷ a) b = let e = amount_append f a b in omega (arith, e)

amount_one : (f : ℕ → Bool) (p : Bool) (v : ℕ) → amount f (cond p (v ∷ []) []) ≡ cond (f v && p) 1 0
unfolding amount
amount_one f true v = at (f v)
  where
    at : (b : Bool) → cond b 1 0 + 0 ≡ cond (b && true) 1 0
    at true = refl
    at false = refl
amount_one f false v = at (f v)
  where
    at : (b : Bool) → ◌≡◌ {A = ℕ} 0 (cond (b && false) 1 0)
    at true = refl
    at false = refl

about_word : (g : ℕ → Bool) (s t : Sign) (x y : ℕ) → y < 1024 → about g s (word x y t) ≡ (g x && eqb (sign_number t) (sign_number s))
about_word g s t x y h = rw (tail_word x y t h, parity_word x y t)

amount_cell : (g : ℕ → Bool) (s : Sign) (x y b : ℕ) → y < 1024 → amount (about g s) (cell x y b) ≡ cond (g x && has (marker_of s) b) 1 0
amount_cell g s x y b h =
    amount_append (about g s) (cond (has U b) (word x y is ∷ []) []) (cond (has F b) (word x y isnt ∷ []) [])
    ∙ ap₂ (λ (p q : ℕ). p + q) (amount_one (about g s) (has U b) (word x y is)) (amount_one (about g s) (has F b) (word x y isnt))
    ∙ rw (about_word g s is x y h, about_word g s isnt x y h) (at s)
  where
    first : (p t f : Bool) → cond ((p && true) && t) 1 0 + cond ((p && false) && f) 1 0 ≡ cond (p && t) 1 0
    first true true f = refl
    first true false f = refl
    first false t f = refl

    second : (p t f : Bool) → cond ((p && false) && t) 1 0 + cond ((p && true) && f) 1 0 ≡ cond (p && f) 1 0
    second true t true = refl
    second true t false = refl
    second false t f = refl

    at : (s : Sign) → cond ((g x && eqb (sign_number is) (sign_number s)) && has U b) 1 0 + cond ((g x && eqb (sign_number isnt) (sign_number s)) && has F b) 1 0 ≡ cond (g x && has (marker_of s) b) 1 0
    at is = first (g x) (has U b) (has F b)
    at isnt = second (g x) (has U b) (has F b)

amount_row : (g : ℕ → Bool) (s : Sign) (x : ℕ) (m : List ℕ) (y j : ℕ) → y + j ≤ 1024 → amount (about g s) (row x m y j) ≡ count (λ (v : ℕ). g x && has (marker_of s) (get_or m v 0)) y j
unfolding row count amount
amount_row g s x m y zero h = refl
amount_row g s x m y (suc j) h =
    amount_append (about g s) (cell x y (get_or m y 0)) (row x m (suc y) j) ∙ ap₂ (λ (p q : ℕ). p + q) (amount_cell g s x y (get_or m y 0) (omega arith)) (amount_row g s x m (suc y) j (omega arith))

twice : (p : Bool) → p ≡ (p && p)
twice true = refl
twice false = refl

module _ (o k : ℕ) (ws : List ℕ) (net : Net o k ws) where
  at_kind : (s : Sign) (x y : ℕ) → o ≤ y → y < o + k → has (marker_of s) (get_or (full_marks o k ws x) y 0) ≡ answers o k ws s x y
  at_kind s x y h g = rw (le-leb o y h, lt-ltb y (o + k) g)

  amount_rows : (g : ℕ → Bool) (s : Sign) (x j : ℕ) → amount (about g s) (rows o k ws x j) ≡ count_rows (λ (u v : ℕ). g u && answers o k ws s u v) o k x j
  unfolding rows count_rows amount
  amount_rows g s x zero = refl
  amount_rows g s x (suc j) =
      amount_append (about g s) (row x (full_marks o k ws x) o k) (rows o k ws (suc x) j)
      ∙ ap₂ (λ (p q : ℕ). p + q)
      (amount_row g s x (full_marks o k ws x) o k net.few
      ∙ count_same (λ (v : ℕ). g x && has (marker_of s) (get_or (full_marks o k ws x) v 0)) (λ (v : ℕ). g x && answers o k ws s x v) o k (λ v p q. ap (λ (b : Bool). g x && b) (at_kind s x v p q)))
      (amount_rows g s (suc x) j)

  -- The words of a sign about objects, and those about kinds.
  pub object_words : (s : Sign) → amount (about (λ (x : ℕ). ltb x o) s) (complete o k ws) ≡ count_rows (λ (u v : ℕ). answers o k ws s u v && answers o k ws s u v) o k 0 o
  unfolding complete
  object_words s =
      let f : ℕ → ℕ → Bool = λ u v. ltb u o && answers o k ws s u v in
      let a = rows_join o k f 0 o k o (o + k) (omega arith) refl in
      let b = rows_none o k f o k (λ u v p q r t. rw (le-ltb u o p)) in
      let c = rows_same o k f (λ (u v : ℕ). answers o k ws s u v && answers o k ws s u v) 0 o (λ u v p q r t. rw (lt-ltb u o (omega arith)) (twice (answers o k ws s u v))) in
      amount_rows (λ (x : ℕ). ltb x o) s 0 (o + k) ∙ omega (arith, a, b, c)

  pub kind_words : (s : Sign) → amount (about (λ (x : ℕ). leb o x) s) (complete o k ws) ≡ count_rows (λ (u v : ℕ). answers o k ws s u v && answers o k ws s u v) o k o k
  unfolding complete
  kind_words s =
      let f : ℕ → ℕ → Bool = λ u v. leb o u && answers o k ws s u v in
      let a = rows_join o k f 0 o k o (o + k) (omega arith) refl in
      let b = rows_none o k f 0 o (λ u v p q r t. rw (lt-leb o u (omega arith))) in
      let c = rows_same o k f (λ (u v : ℕ). answers o k ws s u v && answers o k ws s u v) o k (λ u v p q r t. rw (le-leb o u p) (twice (answers o k ws s u v))) in
      amount_rows (λ (x : ℕ). leb o x) s 0 (o + k) ∙ omega (arith, a, b, c)

  -- Yes and both are the words of sign 0, no and both those of sign 1: about objects, and about kinds.
  pub object_yes : amount (about (λ (x : ℕ). ltb x o) is) (complete o k ws) ≡ get_or (figures o k ws) 1 0 + get_or (figures o k ws) 3 0
  unfolding figures
  object_yes = object_words is ∙ sym (yes_both o k ws 0 o)

  pub object_no : amount (about (λ (x : ℕ). ltb x o) isnt) (complete o k ws) ≡ get_or (figures o k ws) 2 0 + get_or (figures o k ws) 3 0
  unfolding figures
  object_no = object_words isnt ∙ sym (no_both o k ws 0 o)

  pub kind_yes : amount (about (λ (x : ℕ). leb o x) is) (complete o k ws) ≡ get_or (figures o k ws) 5 0 + get_or (figures o k ws) 7 0
  unfolding figures
  kind_yes = kind_words is ∙ sym (yes_both o k ws o k)

  pub kind_no : amount (about (λ (x : ℕ). leb o x) isnt) (complete o k ws) ≡ get_or (figures o k ws) 6 0 + get_or (figures o k ws) 7 0
  unfolding figures
  kind_no = kind_words isnt ∙ sym (no_both o k ws o k)
