-- Rows taken in parts, in the terms of loops that have come to node x.
use Prim.Native.Nat.{ℕ, zero, suc, ◌+◌, ◌-◌, ◌*◌, ◌≤◌, ◌<◌}
use mathlib.Core.Path.{◌≡◌, refl, sym, ap, ◌∙◌}
use mathlib.Core.List.{List, [], ◌++◌, append_assoc, append-nil}
use native.Mathlib.Omega.{arith}
use native.Mathlib.Nat.{suc-mul}
use native.Mathlib.Numerals.{add-one}
use lib.ListN.{length, take, length-append}
use Rattle.theory.specs.Scans.{full_scan}
use Rattle.theory.specs.Completion.{full_marks, row, rows, complete}
use Rattle.completion_cell.proofs.Rows.{row_length, row_short, row_frame}

-- The row of z, read off the marks m that the code has after a scan from x.
pub read_row : (o k n : ℕ) (ws : List ℕ) (x : ℕ) (m : List ℕ) → n ≡ o + k → take n m ≡ (full_scan n ws x).marks → (z : ℕ) → row z m o (n - o) ≡ row z (full_marks o k ws x) o k
read_row o k n ws x m e l z =
    let a : n - o ≡ k = omega arith in
    sym (row_frame z m n o (n - o) (omega arith))
    ∙ ap (λ (q : List ℕ). row z q o (n - o)) (l ∙ ap (λ (i : ℕ). (full_scan i ws x).marks) e)
    ∙ ap (row z (full_marks o k ws x) o) a

module _ (o k : ℕ) (ws : List ℕ) where
  rows_split : (x i j : ℕ) → rows o k ws x (i + j) ≡ rows o k ws x i ++ rows o k ws (x + i) j
  unfolding rows
  rows_split x zero j = let a : zero + j ≡ j = omega arith in let b : x + zero ≡ x = omega arith in rw (a, b)
  rows_split x (suc i) j =
      let a : suc i + j ≡ suc (i + j) = omega arith in
      let b : x + suc i ≡ suc x + i = omega arith in
      rw (a, b, rows_split (suc x) i j) (sym (append_assoc (row x (full_marks o k ws x) o k) (rows o k ws (suc x) i) (rows o k ws (suc x + i) j)))

  rows_one : (x : ℕ) → rows o k ws x 1 ≡ row x (full_marks o k ws x) o k
  unfolding rows
  rows_one x = append-nil (row x (full_marks o k ws x) o k)

  pub rows_none : rows o k ws 0 0 ≡ []
  unfolding rows
  rows_none = refl

  pub rows_all : (n : ℕ) → n ≡ o + k → rows o k ws 0 n ≡ complete o k ws
  unfolding complete
  rows_all n e = ap (rows o k ws 0) e

  module _ (x : ℕ) where
    pub rows_more : rows o k ws 0 (x + 1) ≡ rows o k ws 0 x ++ row x (full_marks o k ws x) o k
    rows_more =
        let b : 0 + x ≡ x = omega arith in
        rows_split 0 x 1 ∙ ap (λ (q : List ℕ). rows o k ws 0 x ++ q) (ap (λ (i : ℕ). rows o k ws i 1) b ∙ rows_one x)

    -- There is room for the next row.
    pub rows_room : (n : ℕ) → x < n → n ≡ o + k → length (rows o k ws 0 x) + length (row x (full_marks o k ws x) o k) ≤ length (complete o k ws)
    rows_room n h e =
        let a : n ≡ (x + 1) + (n - (x + 1)) = omega arith in
        let s : complete o k ws ≡ (rows o k ws 0 x ++ row x (full_marks o k ws x) o k) ++ rows o k ws (0 + (x + 1)) (n - (x + 1)) =
        sym (rows_all n e) ∙ ap (rows o k ws 0) a ∙ rows_split 0 (x + 1) (n - (x + 1)) ∙ ap (λ (q : List ℕ). q ++ rows o k ws (0 + (x + 1)) (n - (x + 1))) rows_more in
        let f : length (complete o k ws) ≡ length (rows o k ws 0 x) + length (row x (full_marks o k ws x) o k) + length (rows o k ws (0 + (x + 1)) (n - (x + 1))) =
        ap length s ∙ simp (length-append) refl in
        omega (arith, f)

    -- What is left to count at node x of n.
    pub rows_go : (n : ℕ) → x < n → length (rows o k ws x (n - x)) ≡ length (row 0 (full_marks o k ws x) o k) + length (rows o k ws (x + 1) (n - (x + 1)))
    unfolding rows
    rows_go n h =
        let e : n - x ≡ suc (n - suc x) = omega arith in
        rw (add-one x, e)
        (length-append (row x (full_marks o k ws x) o k) (rows o k ws (suc x) (n - suc x))
        ∙ ap (λ (i : ℕ). i + length (rows o k ws (suc x) (n - suc x))) (row_length x (full_marks o k ws x) o k))

    pub rows_end : (n : ℕ) → n ≤ x → length (rows o k ws x (n - x)) ≡ 0
    unfolding rows
    rows_end n h = let e : n - x ≡ 0 = omega arith in rw e

  -- A node has at most two words for each kind.
  rows_short : (x j : ℕ) → length (rows o k ws x j) ≤ j * (k * 2)
  unfolding rows
  rows_short x zero = omega arith
  rows_short x (suc j) =
      omega (arith, length-append (row x (full_marks o k ws x) o k) (rows o k ws (suc x) j), row_short x (full_marks o k ws x) o k, rows_short (suc x) j, suc-mul j (k * 2))

  -- So a list of that many places for each node has room for all.
  pub complete_most : (n : ℕ) → n ≡ o + k → length (complete o k ws) ≤ n * (k * 2)
  complete_most n e = rw (rows_all n e) at (rows_short 0 n)
