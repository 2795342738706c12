-- The rows of the table: their lengths, their places, and how loops that write them go on.
use Prim.Native.Nat.{ℕ, zero, suc, ◌+◌, ◌-◌, ◌*◌, ◌≤◌, ◌<◌}
use mathlib.Core.Path.{◌≡◌, refl, sym, ap, ◌∙◌}
use mathlib.Core.List.{List, [], ◌∷◌, ◌++◌, append_assoc, append-nil}
use native.Mathlib.Omega.{arith}
use native.Mathlib.Nat.{suc-mul, le_refl}
use lib.ListN.{length, get_or, set, take, length-append, get_or-append}
use lib.Seq.{get_or-append-add, get_or-take}
use Rattle.theory_laws.specs.Over.{over}
use Rattle.theory_laws.proofs.Over.{over_one}
use Rattle.theory.specs.Scans.{full_scan}
use Rattle.theory.specs.Completion.{full_marks}
use Rattle.theory.proofs.valuation.Tables.{row_in}
use Rattle.question.specs.Table.{answer_at}
use Rattle.question.proofs.Bytes.{answer_low}
use Rattle.valuation.specs.Values.{value_at, value_row, value_rows, own_values}

-- ── one row ──
pub row_long : (m : List ℕ) (y j : ℕ) → length (value_row m y j) ≡ j
unfolding value_row
row_long m y zero = refl
row_long m y (suc j) = ap suc (row_long m (suc y) j)

row_place : (m : List ℕ) (y j i : ℕ) → i < j → get_or (value_row m y j) i 0 ≡ value_at (get_or m (y + i) 0)
unfolding value_row
row_place m y zero i h = absurd (omega arith)
row_place m y (suc j) zero h = let e : y ≡ y + 0 = omega arith in ap (λ (v : ℕ). value_at (get_or m v 0)) e
row_place m y (suc j) (suc i) h =
    let e : suc y + i ≡ y + suc i = omega arith in
    row_place m (suc y) j i (omega arith) ∙ ap (λ (v : ℕ). value_at (get_or m v 0)) e

row_split : (m : List ℕ) (y i j : ℕ) → value_row m y (i + j) ≡ value_row m y i ++ value_row m (y + i) j
unfolding value_row
row_split m y zero j = let a : zero + j ≡ j = omega arith in let b : y + zero ≡ y = omega arith in rw (a, b)
row_split m y (suc i) j =
    let a : suc i + j ≡ suc (i + j) = omega arith in
    let b : y + suc i ≡ suc y + i = omega arith in
    rw (a, b, row_split m (suc y) i j)

row_one : (m : List ℕ) (y : ℕ) → value_row m y 1 ≡ value_at (get_or m y 0) ∷ []
unfolding value_row
row_one m y = refl

-- Bytes past the nodes play no part.
row_frame : (m : List ℕ) (n y j : ℕ) → y + j ≤ n → value_row (take n m) y j ≡ value_row m y j
unfolding value_row
row_frame m n y zero h = refl
row_frame m n y (suc j) h =
    rw (get_or-take n m y 0 (omega arith)) (ap (λ (q : List ℕ). value_at (get_or m y 0) ∷ q) (row_frame m n (suc y) j (omega arith)))

module _ (m : List ℕ) (o : ℕ) where
  pub row_none : value_row m o (o - o) ≡ []
  unfolding value_row
  row_none = let e : o - o ≡ 0 = omega arith in rw e

  row_more : (y : ℕ) → o ≤ y → value_row m o (y + 1 - o) ≡ value_row m o (y - o) ++ value_at (get_or m y 0) ∷ []
  row_more y l =
      let a : y + 1 - o ≡ (y - o) + 1 = omega arith in
      let b : o + (y - o) ≡ y = omega arith in
      ap (value_row m o) a ∙ row_split m o (y - o) 1 ∙ ap (λ (q : List ℕ). value_row m o (y - o) ++ q) (ap (λ (i : ℕ). value_row m i 1) b ∙ row_one m y)

-- One byte more of a row.
pub row_put : (m l t : List ℕ) (o n y b : ℕ) → o ≤ y → y < n → n - o ≤ length l → t ≡ over (value_row m o (y - o)) l → b ≡ value_at (get_or m y 0)
    → set t (y - o) b ≡ over (value_row m o (y + 1 - o)) l
row_put m l t o n y b h g r e f =
    rw (e, f) (over_one (value_row m o (y - o)) l (value_at (get_or m y 0)) (y - o) (row_long m o (y - o)) (omega arith) ∙ ap (λ (q : List ℕ). over q l) (sym (row_more m o y h)))

-- The row of x, read off the marks m that the code has after a scan from x.
pub read_row : (o k n : ℕ) (ws : List ℕ) (x : ℕ) (m : List ℕ) → n ≡ o + k → take n m ≡ (full_scan n ws x).marks → value_row m o (n - o) ≡ value_row (full_marks o k ws x) o k
read_row o k n ws x m e l =
    let a : n - o ≡ k = omega arith in
    sym (row_frame m n o (n - o) (omega arith))
    ∙ ap (λ (q : List ℕ). value_row q o (n - o)) (l ∙ ap (λ (i : ℕ). (full_scan i ws x).marks) e)
    ∙ ap (value_row (full_marks o k ws x) o) a

-- ── bytes that are values ──
low_append : (a b : List ℕ) → ((i : ℕ) → get_or a i 0 ≤ 3) → ((i : ℕ) → get_or b i 0 ≤ 3) → (i : ℕ) → get_or (a ++ b) i 0 ≤ 3
low_append [] b f g i = g i
low_append (v ∷ a) b f g zero = f 0
low_append (v ∷ a) b f g (suc i) = low_append a b (λ j. f (suc j)) g i

row_low : (m : List ℕ) (y j i : ℕ) → get_or (value_row m y j) i 0 ≤ 3
unfolding value_row
row_low m y zero i = omega arith
row_low m y (suc j) zero = answer_low (answer_at (get_or m y 0))
row_low m y (suc j) (suc i) = row_low m (suc y) j i

-- ── all rows ──
module _ (o k : ℕ) (ws : List ℕ) where
  abbrev row_of : ℕ → List ℕ
  row_of x = value_row (full_marks o k ws x) o k

  rows_long : (x j : ℕ) → length (value_rows o k ws x j) ≡ j * k
  unfolding value_rows
  rows_long x zero = omega arith
  rows_long x (suc j) = simp length-append (omega (arith, row_long (full_marks o k ws x) o k, rows_long (suc x) j, suc-mul j k))

  rows_place : (x j u i : ℕ) → u < j → i < k → get_or (value_rows o k ws x j) (u * k + i) 0 ≡ value_at (get_or (full_marks o k ws (x + u)) (o + i) 0)
  unfolding value_rows
  rows_place x zero u i h l = absurd (omega arith)
  rows_place x (suc j) zero i h l =
      let e : 0 * k + i ≡ i = omega arith in
      let f : x ≡ x + 0 = omega arith in
      rw e (get_or-append (row_of x) (value_rows o k ws (suc x) j) 0 i (omega (arith, row_long (full_marks o k ws x) o k))
      ∙ row_place (full_marks o k ws x) o k i l
      ∙ ap (λ (v : ℕ). value_at (get_or (full_marks o k ws v) (o + i) 0)) f)
  rows_place x (suc j) (suc u) i h l =
      let e : suc u * k + i ≡ length (row_of x) + (u * k + i) = omega (arith, suc-mul u k, row_long (full_marks o k ws x) o k) in
      let f : suc x + u ≡ x + suc u = omega arith in
      rw e (get_or-append-add (row_of x) (value_rows o k ws (suc x) j) (u * k + i) 0
      ∙ rows_place (suc x) j u i (omega arith) l
      ∙ ap (λ (v : ℕ). value_at (get_or (full_marks o k ws v) (o + i) 0)) f)

  pub own_long : length (own_values o k ws) ≡ (o + k) * k
  unfolding own_values
  own_long = rows_long 0 (o + k)

  -- The byte of element x and of the kind at place i.
  pub own_place : (x i : ℕ) → x < o + k → i < k → get_or (own_values o k ws) (x * k + i) 0 ≡ value_at (get_or (full_marks o k ws x) (o + i) 0)
  unfolding own_values
  own_place x i h l =
      let e : 0 + x ≡ x = omega arith in
      rows_place 0 (o + k) x i h l ∙ ap (λ (v : ℕ). value_at (get_or (full_marks o k ws v) (o + i) 0)) e

  rows_low : (x j i : ℕ) → get_or (value_rows o k ws x j) i 0 ≤ 3
  unfolding value_rows
  rows_low x zero i = omega arith
  rows_low x (suc j) i = low_append (row_of x) (value_rows o k ws (suc x) j) (row_low (full_marks o k ws x) o k) (rows_low (suc x) j) i

  pub own_low : (i : ℕ) → get_or (own_values o k ws) i 0 ≤ 3
  unfolding own_values
  own_low = rows_low 0 (o + k)

  rows_split : (x i j : ℕ) → value_rows o k ws x (i + j) ≡ value_rows o k ws x i ++ value_rows o k ws (x + i) j
  unfolding value_rows
  rows_split x zero j = let a : zero + j ≡ j = omega arith in let b : x + zero ≡ x = omega arith in rw (a, b)
  rows_split x (suc i) j =
      let a : suc i + j ≡ suc (i + j) = omega arith in
      let b : x + suc i ≡ suc x + i = omega arith in
      rw (a, b, rows_split (suc x) i j) (sym (append_assoc (row_of x) (value_rows o k ws (suc x) i) (value_rows o k ws (suc x + i) j)))

  rows_one : (x : ℕ) → value_rows o k ws x 1 ≡ row_of x
  unfolding value_rows
  rows_one x = append-nil (row_of x)

  pub rows_none : value_rows o k ws 0 0 ≡ []
  unfolding value_rows
  rows_none = refl

  pub rows_all : (n : ℕ) → n ≡ o + k → value_rows o k ws 0 n ≡ own_values o k ws
  unfolding own_values
  rows_all n e = ap (value_rows o k ws 0) e

  module _ (x : ℕ) where
    pub rows_more : value_rows o k ws 0 (x + 1) ≡ value_rows o k ws 0 x ++ value_row (full_marks o k ws x) o k
    rows_more =
        let b : 0 + x ≡ x = omega arith in
        rows_split 0 x 1 ∙ ap (λ (q : List ℕ). value_rows o k ws 0 x ++ q) (ap (λ (i : ℕ). value_rows o k ws i 1) b ∙ rows_one x)

    -- There is room for the next row.
    pub rows_room : (n : ℕ) → x < n → length (value_rows o k ws 0 x) + k ≤ n * k
    rows_room n h = omega (arith, rows_long 0 x, row_in k n (n * k) x h (le_refl (n * k)))
