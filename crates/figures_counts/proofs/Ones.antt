-- The ones that exact rows have in common are the answers that hold together, counted.
use Prim.Native.Nat.{ℕ, zero, suc, ◌+◌, ◌*◌, ◌/◌, ◌%◌, ◌^◌, ◌≤◌, ◌<◌}
use mathlib.Core.Path.{◌≡◌, refl, sym, ap, ap₂, ◌∙◌}
use mathlib.Core.Bool.{Bool, true, false, cond, ◌&&◌}
use mathlib.Core.List.{List, [], ◌∷◌, ◌++◌}
use native.Mathlib.Omega.{arith}
use borrow.Author.Tests.{leb-true, ltb-true}
use lib.Dec.{leb, ltb}
use lib.ListN.{length, get_or}
use lib.Bits.{bit_and, and_lt}
use lib.Count.{ones}
use Rattle.theory_laws.proofs.Booleans.{not_so, same_test, and_left, and_right}
use Rattle.theory_laws.proofs.Bits.{bit_and_lem}
use Rattle.theory.specs.Words.{Sign}
use Rattle.theory.specs.Nets.{Net}
use Rattle.theory.specs.Marks.{has, marker_of}
use Rattle.theory.specs.Completion.{full_marks}
use Rattle.rows_steps.specs.Members.{members_from}
use Rattle.rows_steps.proofs.Members.{members_count}
use Rattle.theory.specs.Rows.{width, Wide, bit_at, Exact, answers}
use Rattle.theory.proofs.rows.Exactly.{wide_enough, answers_exact}
use Rattle.figures_counts.specs.Counting.{count, count_rows}
use Rattle.figures_counts.specs.Ones.{ones_both}
use Rattle.figures_counts.proofs.Counts.{count_same, count_join, count_within}

-- ── one word ──
one_size : (p : Bool) (v : ℕ) (r : List ℕ) → length (cond p (v ∷ []) [] ++ r) ≡ cond p 1 0 + length r
one_size true v r = omega arith
one_size false v r = omega arith

members_counted : (v b j : ℕ) → length (members_from v b j) ≡ count (λ (t : ℕ). has t v) b j
unfolding members_from count
members_counted v b zero = refl
members_counted v b (suc j) = one_size (has b v) b (members_from v (suc b) j) ∙ ap (λ (i : ℕ). cond (has b v) 1 0 + i) (members_counted v (suc b) j)

word_count : (u v : ℕ) → u < 2 ^ 64 → v < 2 ^ 64 → ones (bit_and u v) ≡ count (λ (t : ℕ). has t u && has t v) 0 64
word_count u v h g =
    members_count (bit_and u v) (and_lt 64 u v h g) ∙ members_counted (bit_and u v) 0 64
    ∙ count_same (λ (t : ℕ). has t (bit_and u v)) (λ (t : ℕ). has t u && has t v) 0 64 (λ t p q. bit_and_lem t u v)

-- ── one row, and rows one after another ──
count_shift : (f : ℕ → Bool) (c b j d : ℕ) → d ≡ c + b → count (λ (t : ℕ). f (c + t)) b j ≡ count f d j
unfolding count
count_shift f c b zero d e = refl
count_shift f c b (suc j) d e = rw (← e) (ap (λ (i : ℕ). cond (f d) 1 0 + i) (count_shift f c (suc b) j (suc d) (omega arith)))

both_join : (a i j c d : ℕ) (l r : List ℕ) → a + i ≡ c → i + j ≡ d → ones_both a i l r + ones_both c j l r ≡ ones_both a d l r
unfolding ones_both
both_join a zero j c d l r e h =
    let p : c ≡ a = omega arith in
    let q : d ≡ j = omega arith in
    rw (p, q) (omega arith)
both_join a (suc i) j c d l r e h =
    let q : d ≡ suc (i + j) = omega arith in
    let s = both_join (suc a) i j c (i + j) l r (omega arith) refl in
    rw q (omega (arith, s))

module _ (l r : List ℕ) (wide : Wide l) (wide' : Wide r) where
  at : (a i t : ℕ) → t < 64 → (q : List ℕ) → bit_at q a (i * 64 + t) ≡ has t (get_or q (a + i) 0)
  at a i t h q =
      let e : (i * 64 + t) / 64 ≡ i = omega arith in
      let f : (i * 64 + t) % 64 ≡ t = omega arith in
      rw (e, f)

  row_ones : (a i j c : ℕ) → c ≡ a + i → ones_both c j l r ≡ count (λ (y : ℕ). bit_at l a y && bit_at r a y) (i * 64) (j * 64)
  unfolding ones_both count
  row_ones a i zero c e = refl
  row_ones a i (suc j) c e =
      let f : ℕ → Bool = λ y. bit_at l a y && bit_at r a y in
      let p : ones (bit_and (get_or l c 0) (get_or r c 0)) ≡ count f (i * 64) 64 =
      rw e
      (word_count (get_or l (a + i) 0) (get_or r (a + i) 0) (wide (a + i)) (wide' (a + i))
      ∙ sym (count_same (λ (t : ℕ). f (i * 64 + t)) (λ (t : ℕ). has t (get_or l (a + i) 0) && has t (get_or r (a + i) 0)) 0 64 (λ t u v. ap₂ ◌&&◌ (at a i t v l) (at a i t v r)))
      ∙ count_shift f (i * 64) 0 64 (i * 64) (omega arith)) in
      let s = row_ones a (suc i) j (suc c) (omega arith) in
      let u = count_join f (i * 64) 64 (j * 64) (suc i * 64) (suc j * 64) (omega arith) (omega arith) in
      ap₂ (λ (m n : ℕ). m + n) p s ∙ u

-- ── exact rows ──
module _ (o k : ℕ) (ws : List ℕ) (net : Net o k ws) where
  abbrev w : ℕ
  w = width (o + k)

  bit_answer : (s : Sign) (l : List ℕ) → Exact o k ws s l → (x y : ℕ) → x < o + k → y < w * 64 → bit_at l (x * w) y ≡ answers o k ws s x y
  bit_answer s l e x y h g = same_test (bit_at l (x * w) y) (answers o k ws s x y) (λ b. (answers_exact o k ws net s x y h).1 ((e x y h g).0 b)) (λ b. (e x y h g).1 ((answers_exact o k ws net s x y h).0 b))

  no_kind : (s : Sign) (x y : ℕ) (b : Bool) → ((o ≤ y) → (y < o + k) → ⊥) → (answers o k ws s x y && b) ≡ false
  no_kind s x y b f = not_so (answers o k ws s x y && b)
      (λ (e : (answers o k ws s x y && b) ≡ true).
      let t = and_left (leb o y && ltb y (o + k)) (has (marker_of s) (get_or (full_marks o k ws x) y 0)) (and_left (answers o k ws s x y) b e) in
      f (leb-true o y (and_left (leb o y) (ltb y (o + k)) t)) (ltb-true y (o + k) (and_right (leb o y) (ltb y (o + k)) t)))

  module _ (s s' : Sign) (l r : List ℕ) (exact : Exact o k ws s l) (exact' : Exact o k ws s' r) (wide : Wide l) (wide' : Wide r) where
    row_counted : (x : ℕ) → x < o + k → ones_both (x * w) w l r ≡ count (λ (y : ℕ). answers o k ws s x y && answers o k ws s' x y) o k
    row_counted x h =
        let f : ℕ → Bool = λ y. answers o k ws s x y && answers o k ws s' x y in
        let big = wide_enough (o + k) in
        row_ones l r wide wide' (x * w) 0 w (x * w) (omega arith)
        ∙ count_same (λ (y : ℕ). bit_at l (x * w) y && bit_at r (x * w) y) f 0 (w * 64) (λ y p q. ap₂ ◌&&◌ (bit_answer s l exact x y h (omega arith)) (bit_answer s' r exact' x y h (omega arith)))
        ∙ count_within f o k (w * 64) big (λ v p. no_kind s x v (answers o k ws s' x v) (λ a b. omega arith)) (λ v p q. no_kind s x v (answers o k ws s' x v) (λ a b. omega arith))

    -- The ones in common in the rows of j nodes.
    pub ones_counted : (x j : ℕ) → x + j ≤ o + k → ones_both (x * w) (j * w) l r ≡ count_rows (λ (u v : ℕ). answers o k ws s u v && answers o k ws s' u v) o k x j
    unfolding count_rows ones_both
    ones_counted x zero h = let e : 0 * w ≡ 0 = omega arith in rw e
    ones_counted x (suc j) h =
        let p : x * w + w ≡ suc x * w = omega arith in
        let q : w + j * w ≡ suc j * w = omega arith in
        sym (both_join (x * w) w (j * w) (suc x * w) (suc j * w) l r p q) ∙ ap₂ (λ (m n : ℕ). m + n) (row_counted x (omega arith)) (ones_counted (suc x) j (omega arith))
