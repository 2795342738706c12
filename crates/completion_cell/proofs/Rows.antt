-- A row taken in parts, in the terms of loops that have come to kind y.
use Prim.Native.Nat.{ℕ, zero, suc, ◌+◌, ◌-◌, ◌*◌, ◌/◌, ◌%◌, ◌≤◌, ◌<◌}
use mathlib.Core.Path.{◌≡◌, refl, sym, ap, ◌∙◌}
use mathlib.Core.List.{List, [], ◌++◌, append_assoc, append-nil}
use native.Mathlib.Omega.{arith}
use lib.ListN.{length, get_or, take, length-append}
use lib.Seq.{get_or-take}
use Rattle.theory.specs.Completion.{cell, row}
use Rattle.completion_cell.proofs.Cells.{cell_length}

row_cons : (x : ℕ) (m : List ℕ) (y j : ℕ) → length (row x m y (suc j)) ≡ get_or m y 0 / 4 % 2 + get_or m y 0 / 2 % 2 + length (row x m (suc y) j)
unfolding row
row_cons x m y j =
    length-append (cell x y (get_or m y 0)) (row x m (suc y) j) ∙ ap (λ (i : ℕ). i + length (row x m (suc y) j)) (cell_length x y (get_or m y 0))

-- The row's length does not depend on its node.
pub row_length : (x : ℕ) (m : List ℕ) (y j : ℕ) → length (row x m y j) ≡ length (row 0 m y j)
unfolding row
row_length x m y zero = refl
row_length x m y (suc j) = row_cons x m y j ∙ ap (λ (i : ℕ). get_or m y 0 / 4 % 2 + get_or m y 0 / 2 % 2 + i) (row_length x m (suc y) j) ∙ sym (row_cons 0 m y j)

-- At most two words a kind.
pub row_short : (x : ℕ) (m : List ℕ) (y j : ℕ) → length (row x m y j) ≤ 2 * j
unfolding row
row_short x m y zero = omega arith
row_short x m y (suc j) = omega (arith, row_cons x m y j, row_short x m (suc y) j)

row_split : (x : ℕ) (m : List ℕ) (y i j : ℕ) → row x m y (i + j) ≡ row x m y i ++ row x m (y + i) j
unfolding row
row_split x m y zero j = let a : zero + j ≡ j = omega arith in let b : y + zero ≡ y = omega arith in rw (a, b)
row_split x m y (suc i) j =
    let a : suc i + j ≡ suc (i + j) = omega arith in
    let b : y + suc i ≡ suc y + i = omega arith in
    rw (a, b, row_split x m (suc y) i j) (sym (append_assoc (cell x y (get_or m y 0)) (row x m (suc y) i) (row x m (suc y + i) j)))

row_one : (x : ℕ) (m : List ℕ) (y : ℕ) → row x m y 1 ≡ cell x y (get_or m y 0)
unfolding row
row_one x m y = append-nil (cell x y (get_or m y 0))

-- Bytes past the nodes play no part.
pub row_frame : (x : ℕ) (m : List ℕ) (n y j : ℕ) → y + j ≤ n → row x (take n m) y j ≡ row x m y j
unfolding row
row_frame x m n y zero h = refl
row_frame x m n y (suc j) h = rw (get_or-take n m y 0 (omega arith)) (ap (λ (q : List ℕ). cell x y (get_or m y 0) ++ q) (row_frame x m n (suc y) j (omega arith)))

module _ (x : ℕ) (m : List ℕ) (o : ℕ) where
  pub row_none : row x m o (o - o) ≡ []
  unfolding row
  row_none = let e : o - o ≡ 0 = omega arith in rw e

  module _ (y n : ℕ) (l : o ≤ y) (h : y < n) where
    pub row_more : row x m o (y + 1 - o) ≡ row x m o (y - o) ++ cell x y (get_or m y 0)
    row_more =
        let a : y + 1 - o ≡ (y - o) + 1 = omega arith in
        let b : o + (y - o) ≡ y = omega arith in
        ap (row x m o) a ∙ row_split x m o (y - o) 1 ∙ ap (λ (q : List ℕ). row x m o (y - o) ++ q) (ap (λ (i : ℕ). row x m i 1) b ∙ row_one x m y)

    -- There is room for the next cell.
    pub row_room : length (row x m o (y - o)) + length (cell x y (get_or m y 0)) ≤ length (row x m o (n - o))
    row_room =
        let a : n - o ≡ (y + 1 - o) + (n - (y + 1)) = omega arith in
        let e : row x m o (n - o) ≡ (row x m o (y - o) ++ cell x y (get_or m y 0)) ++ row x m (o + (y + 1 - o)) (n - (y + 1)) =
        ap (row x m o) a ∙ row_split x m o (y + 1 - o) (n - (y + 1)) ∙ ap (λ (q : List ℕ). q ++ row x m (o + (y + 1 - o)) (n - (y + 1))) row_more in
        let f : length (row x m o (n - o)) ≡ length (row x m o (y - o)) + length (cell x y (get_or m y 0)) + length (row x m (o + (y + 1 - o)) (n - (y + 1))) =
        ap length e ∙ simp (length-append) refl in
        omega (arith, f)

-- What is left to count at kind y of n.
module _ (m : List ℕ) (y n : ℕ) where
  pub count_go : y < n → length (row 0 m y (n - y)) ≡ get_or m y 0 / 4 % 2 + get_or m y 0 / 2 % 2 + length (row 0 m (y + 1) (n - (y + 1)))
  count_go h =
      let e : n - y ≡ suc (n - (y + 1)) = omega arith in
      let s : suc y ≡ y + 1 = omega arith in
      ap (λ (i : ℕ). length (row 0 m y i)) e
      ∙ row_cons 0 m y (n - (y + 1))
      ∙ ap (λ (i : ℕ). get_or m y 0 / 4 % 2 + get_or m y 0 / 2 % 2 + length (row 0 m i (n - (y + 1)))) s

  pub count_end : n ≤ y → length (row 0 m y (n - y)) ≡ 0
  unfolding row
  count_end h = let e : n - y ≡ 0 = omega arith in rw e
