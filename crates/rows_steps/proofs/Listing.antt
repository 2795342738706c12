-- The list out of exact rows is the completed list, and counting ones gives its size.
use Prim.Native.Nat.{ℕ, zero, suc, ◌+◌, ◌-◌, ◌*◌, ◌/◌, ◌%◌, ◌^◌, ◌≤◌, ◌<◌}
use mathlib.Core.Path.{◌≡◌, refl, sym, ap, ap₂, ◌∙◌}
use mathlib.Core.Bool.{Bool, true, false, cond, ◌||◌}
use mathlib.Core.List.{List, [], ◌∷◌, ◌++◌, append_assoc, append-nil}
use native.Mathlib.Omega.{arith}
use lib.ListN.{length, get_or, length-append}
use lib.Bits.{bit_or}
use lib.Count.{ones}
use Rattle.theory_laws.proofs.Booleans.{not_so}
use Rattle.theory_laws.proofs.Bits.{bit_or_lem}
use Rattle.theory.specs.Words.{Sign, is, isnt}
use Rattle.theory.specs.Nets.{Kind, Net}
use Rattle.theory.specs.Marks.{U, F, has}
use Rattle.theory.specs.Completion.{full_marks, row, rows, complete}
use Rattle.theory.proofs.rows.Exactly.{wide_enough, head_kind, bit_marked}
use Rattle.rows_steps.specs.Members.{members_from, members}
use Rattle.rows_steps.proofs.Members.{members_count}
use Rattle.theory.specs.Rows.{width, Wide, bit_at, Exact}
use Rattle.rows_steps.specs.Listing.{pair, word_pairs, row_pairs, all_pairs, ones_from}

-- ── sizes ──
pair_size : (x y : ℕ) (p q : Bool) → length (pair x y p q) ≡ cond p 1 0 + cond q 1 0
pair_size x y true true = refl
pair_size x y true false = refl
pair_size x y false true = refl
pair_size x y false false = refl

count_one : (p : Bool) (b : ℕ) (r : List ℕ) → length (cond p (b ∷ []) [] ++ r) ≡ cond p 1 0 + length r
count_one true b r = omega arith
count_one false b r = omega arith

module _ (x base a b : ℕ) where
  -- A node in neither word gives no pair.
  pairs_node : (t : ℕ) (p : Bool) (ts : List ℕ) → p ≡ (has t a || has t b) → word_pairs x base a b (cond p (t ∷ []) [] ++ ts) ≡ pair x (base + t) (has t a) (has t b) ++ word_pairs x base a b ts
  unfolding word_pairs
  pairs_node t true ts e = refl
  pairs_node t false ts e = none (has t a) (has t b) e
    where
      none : (p q : Bool) → false ≡ (p || q) → word_pairs x base a b ts ≡ pair x (base + t) p q ++ word_pairs x base a b ts
      none false false e = refl
      none false true e = let z : ◌≡◌ {A = ℕ} 0 1 = cc in absurd (omega arith)
      none true q e = let z : ◌≡◌ {A = ℕ} 0 1 = cc in absurd (omega arith)

  pairs_size : (s j : ℕ) → length (word_pairs x base a b (members_from (bit_or a b) s j)) ≡ length (members_from a s j) + length (members_from b s j)
  unfolding members_from word_pairs
  pairs_size s zero = refl
  pairs_size s (suc j) =
      let e = pairs_size (suc s) j in
      let p = pair_size x (base + s) (has s a) (has s b) in
      let c = count_one (has s a) s (members_from a (suc s) j) in
      let d = count_one (has s b) s (members_from b (suc s) j) in
      ap length (pairs_node s (has s (bit_or a b)) (members_from (bit_or a b) (suc s) j) (bit_or_lem s a b))
      ∙ length-append (pair x (base + s) (has s a) (has s b)) (word_pairs x base a b (members_from (bit_or a b) (suc s) j))
      ∙ omega arith

  pub word_size : a < 2 ^ 64 → b < 2 ^ 64 → length (word_pairs x base a b (members (bit_or a b))) ≡ ones a + ones b
  word_size h g = pairs_size 0 64 ∙ ap₂ (λ (p q : ℕ). p + q) (sym (members_count a h)) (sym (members_count b g))

-- A row has as many words as ones in its two rows.
pub row_size : (x a i j c : ℕ) (yeses noes : List ℕ) → Wide yeses → Wide noes → c ≡ a + i → length (row_pairs x a i j yeses noes) ≡ ones_from c j yeses + ones_from c j noes
unfolding row_pairs ones_from
row_size x a i zero c yeses noes h g e = refl
row_size x a i (suc j) c yeses noes h g e =
    let p = row_size x a (suc i) j (suc c) yeses noes h g (omega arith) in
    let q = word_size x (i * 64) (get_or yeses (a + i) 0) (get_or noes (a + i) 0) (h (a + i)) (g (a + i)) in
    rw e
    (length-append (word_pairs x (i * 64) (get_or yeses (a + i) 0) (get_or noes (a + i) 0) (members (bit_or (get_or yeses (a + i) 0) (get_or noes (a + i) 0)))) (row_pairs x a (suc i) j yeses noes)
    ∙ rw e at (again p q))
  where
    again : length (row_pairs x a (suc i) j yeses noes) ≡ ones_from (suc c) j yeses + ones_from (suc c) j noes
        → length (word_pairs x (i * 64) (get_or yeses (a + i) 0) (get_or noes (a + i) 0) (members (bit_or (get_or yeses (a + i) 0) (get_or noes (a + i) 0)))) ≡ ones (get_or yeses (a + i) 0) + ones (get_or noes (a + i) 0)
        → length (word_pairs x (i * 64) (get_or yeses (a + i) 0) (get_or noes (a + i) 0) (members (bit_or (get_or yeses (a + i) 0) (get_or noes (a + i) 0)))) + length (row_pairs x a (suc i) j yeses noes)
        ≡ (ones (get_or yeses (a + i) 0) + ones_from (suc c) j yeses) + (ones (get_or noes (a + i) 0) + ones_from (suc c) j noes)
    again p q = omega arith

-- ── words ──
-- The words about x and j nodes from y on.
unfoldable spread : ℕ → (ℕ → Bool) → (ℕ → Bool) → ℕ → ℕ → List ℕ
spread x f g y zero = []
spread x f g y (suc j) = pair x y (f y) (g y) ++ spread x f g (suc y) j

spread_join : (x : ℕ) (f g : ℕ → Bool) (y i j c d : ℕ) → y + i ≡ c → i + j ≡ d → spread x f g y i ++ spread x f g c j ≡ spread x f g y d
unfolding spread
spread_join x f g y zero j c d e h =
    let p : c ≡ y = omega arith in
    let q : d ≡ j = omega arith in
    rw (p, q)
spread_join x f g y (suc i) j c d e h =
    let q : d ≡ suc (i + j) = omega arith in
    rw q
    (append_assoc (pair x y (f y) (g y)) (spread x f g (suc y) i) (spread x f g c j)
    ∙ ap (λ (l : List ℕ). pair x y (f y) (g y) ++ l) (spread_join x f g (suc y) i j c (i + j) (omega arith) refl))

spread_none : (x : ℕ) (f g : ℕ → Bool) (y j : ℕ) → ((v : ℕ) → y ≤ v → v < y + j → f v ≡ false) → ((v : ℕ) → y ≤ v → v < y + j → g v ≡ false) → spread x f g y j ≡ []
unfolding spread
spread_none x f g y zero h k = refl
spread_none x f g y (suc j) h k =
    rw (h y (omega arith) (omega arith), k y (omega arith) (omega arith))
    (spread_none x f g (suc y) j (λ v a b. h v (omega arith) (omega arith)) (λ v a b. k v (omega arith) (omega arith)))

module _ (x : ℕ) (f g : ℕ → Bool) where
  word_spread : (base a b s j c : ℕ) → c ≡ base + s → ((t : ℕ) → s ≤ t → t < s + j → f (base + t) ≡ has t a) → ((t : ℕ) → s ≤ t → t < s + j → g (base + t) ≡ has t b)
      → word_pairs x base a b (members_from (bit_or a b) s j) ≡ spread x f g c j
  unfolding members_from spread word_pairs
  word_spread base a b s zero c e h k = refl
  word_spread base a b s (suc j) c e h k =
      pairs_node x base a b s (has s (bit_or a b)) (members_from (bit_or a b) (suc s) j) (bit_or_lem s a b)
      ∙ rw (e, h s (omega arith) (omega arith), k s (omega arith) (omega arith))
      (ap (λ (l : List ℕ). pair x (base + s) (has s a) (has s b) ++ l)
      (word_spread base a b (suc s) j (suc (base + s)) (omega arith) (λ t p q. h t (omega arith) (omega arith)) (λ t p q. k t (omega arith) (omega arith))))

  row_spread : (a i j : ℕ) (yeses noes : List ℕ) → ((y : ℕ) → f y ≡ bit_at yeses a y) → ((y : ℕ) → g y ≡ bit_at noes a y)
      → row_pairs x a i j yeses noes ≡ spread x f g (i * 64) (j * 64)
  unfolding row_pairs spread
  row_spread a i zero yeses noes h k = refl
  row_spread a i (suc j) yeses noes h k =
      ap₂ (λ (p q : List ℕ). p ++ q)
      (word_spread (i * 64) (get_or yeses (a + i) 0) (get_or noes (a + i) 0) 0 64 (i * 64) (omega arith) (λ t p q. h (i * 64 + t) ∙ at t q yeses) (λ t p q. k (i * 64 + t) ∙ at t q noes))
      (row_spread a (suc i) j yeses noes h k)
      ∙ spread_join x f g (i * 64) 64 (j * 64) (suc i * 64) (suc j * 64) (omega arith) (omega arith)
    where
      at : (t : ℕ) → t < 0 + 64 → (l : List ℕ) → bit_at l a (i * 64 + t) ≡ has t (get_or l (a + i) 0)
      at t q l =
          let p : (i * 64 + t) / 64 ≡ i = omega arith in
          let r : (i * 64 + t) % 64 ≡ t = omega arith in
          rw (p, r)

  marks_spread : (m : List ℕ) (y j : ℕ) → ((v : ℕ) → y ≤ v → v < y + j → f v ≡ has U (get_or m v 0)) → ((v : ℕ) → y ≤ v → v < y + j → g v ≡ has F (get_or m v 0))
      → spread x f g y j ≡ row x m y j
  unfolding row spread
  marks_spread m y zero h k = refl
  marks_spread m y (suc j) h k =
      rw (h y (omega arith) (omega arith), k y (omega arith) (omega arith), marks_spread m (suc y) j (λ v a b. h v (omega arith) (omega arith)) (λ v a b. k v (omega arith) (omega arith)))

module _ (o k : ℕ) (ws : List ℕ) (net : Net o k ws) (yeses noes : List ℕ) (yes_exact : Exact o k ws is yeses) (no_exact : Exact o k ws isnt noes) where
  abbrev w : ℕ
  w = width (o + k)

  -- Exact rows have nothing but at kinds.
  bit_none : (s : Sign) (l : List ℕ) → Exact o k ws s l → (x y : ℕ) → x < o + k → y < w * 64 → (Kind o k y → ⊥) → bit_at l (x * w) y ≡ false
  bit_none s l e x y h g f = not_so (bit_at l (x * w) y) (λ (b : bit_at l (x * w) y ≡ true). f (head_kind o k ws net x y s ((e x y h g).0 b)))

  row_listed : (x : ℕ) → x < o + k → row_pairs x (x * w) 0 w yeses noes ≡ row x (full_marks o k ws x) o k
  row_listed x h =
      let f : ℕ → Bool = λ y. bit_at yeses (x * w) y in
      let g : ℕ → Bool = λ y. bit_at noes (x * w) y in
      let big = wide_enough (o + k) in
      let rest = w * 64 - (o + k) in
      let a : spread x f g 0 o ≡ [] = spread_none x f g 0 o (λ v p q. bit_none is yeses yes_exact x v h (omega arith) (λ d. omega (arith, d.low))) (λ v p q. bit_none isnt noes no_exact x v h (omega arith) (λ d. omega (arith, d.low))) in
      let b : spread x f g o k ≡ row x (full_marks o k ws x) o k = marks_spread x f g (full_marks o k ws x) o k
      (λ v p q. bit_marked o k ws net is yeses yes_exact x v h (record { low = p; high = q })) (λ v p q. bit_marked o k ws net isnt noes no_exact x v h (record { low = p; high = q })) in
      let c : spread x f g (o + k) rest ≡ [] = spread_none x f g (o + k) rest
      (λ v p q. bit_none is yeses yes_exact x v h (omega arith) (λ d. omega (arith, d.high))) (λ v p q. bit_none isnt noes no_exact x v h (omega arith) (λ d. omega (arith, d.high))) in
      row_spread x f g (x * w) 0 w yeses noes (λ y. refl) (λ y. refl)
      ∙ sym (spread_join x f g 0 (o + k) rest (o + k) (w * 64) (omega arith) (omega arith))
      ∙ ap₂ (λ (p q : List ℕ). p ++ q) (sym (spread_join x f g 0 o k o (o + k) (omega arith) refl) ∙ ap₂ (λ (p q : List ℕ). p ++ q) a b) c
      ∙ append-nil (row x (full_marks o k ws x) o k)

  all_listed : (x j : ℕ) → x + j ≤ o + k → all_pairs w x j yeses noes ≡ rows o k ws x j
  unfolding all_pairs rows
  all_listed x zero h = refl
  all_listed x (suc j) h = ap₂ (λ (p q : List ℕ). p ++ q) (row_listed x (omega arith)) (all_listed (suc x) j (omega arith))

  -- The list out of exact rows is the marker engine's.
  pub listed : all_pairs w 0 (o + k) yeses noes ≡ complete o k ws
  unfolding complete
  listed = all_listed 0 (o + k) (omega arith)
