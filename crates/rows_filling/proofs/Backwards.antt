-- The loops that pass no on to what is a kind, in the terms of the code: what needs no look, a turn more, and the end.
use Prim.Native.Nat.{ℕ, zero, suc, ◌+◌, ◌-◌, ◌*◌, ◌/◌, ◌%◌, ◌≤◌, ◌<◌}
use mathlib.Core.Path.{◌≡◌, refl, sym, ◌∙◌}
use mathlib.Core.Bool.{Bool, true, false, cond, not}
use mathlib.Core.List.{List}
use native.Mathlib.Omega.{arith}
use borrow.Author.Tests.{eqb-true, eq-eqb, not-false}
use lib.Dec.{eqb}
use lib.ListN.{get_or}
use lib.Seq.{set-get_or}
use lib.Bits.{bit_and, and_self, and_le_r}
use Rattle.theory_laws.proofs.Bits.{or_had}
use Rattle.theory_laws.proofs.Booleans.{or_none_left, or_none_right}
use Rattle.theory.specs.Rows.{bit_at}
use Rattle.rows_steps.specs.Rows.{put, meets}
use Rattle.rows_steps.specs.Steps.{back_row, back}

-- ── one bit ──
put_had : (a y : ℕ) (l : List ℕ) → bit_at l a y ≡ true → put a y l ≡ l
unfolding put
put_had a y l e = rw (or_had (y % 64) (get_or l (a + y / 64) 0) e) (set-get_or l (a + y / 64) 0)

either : (p : Bool) (l r : List ℕ) → r ≡ l → l ≡ cond p r l
either true l r e = sym e
either false l r e = refl

-- A bit that is set stays so, whether the rows meet or not.
pub bit_stays : (a y : ℕ) (l : List ℕ) (p : Bool) → bit_at l a y ≡ true → l ≡ cond p (put a y l) l
bit_stays a y l p e = either p l (put a y l) (put_had a y l e)

-- ── an empty row ──
-- A row that has no bit in common with itself has none.
self_none : (a j : ℕ) (l : List ℕ) → meets a a j l l ≡ false → (i : ℕ) → i < j → get_or l (a + i) 0 ≡ 0
unfolding meets
self_none a zero l e i h = absurd (omega arith)
self_none a (suc j) l e zero h =
    let v = get_or l a 0 in
    let q : bit_and v v ≡ 0 = eqb-true (bit_and v v) 0 (not-false (eqb (bit_and v v) 0) (or_none_left (not (eqb (bit_and v v) 0)) (meets (suc a) (suc a) j l l) e)) in
    let z : a + 0 ≡ a = omega arith in
    rw z (sym (and_self v) ∙ q)
self_none a (suc j) l e (suc i) h =
    let v = get_or l a 0 in
    let z : a + suc i ≡ suc a + i = omega arith in
    rw z (self_none (suc a) j l (or_none_right (not (eqb (bit_and v v) 0)) (meets (suc a) (suc a) j l l) e) i (omega arith))

none_meets : (b a j : ℕ) (yeses l : List ℕ) → ((i : ℕ) → i < j → get_or l (a + i) 0 ≡ 0) → meets b a j yeses l ≡ false
unfolding meets
none_meets b a zero yeses l f = refl
none_meets b a (suc j) yeses l f =
    let z : a + 0 ≡ a = omega arith in
    let v : get_or l a 0 ≡ 0 = rw z at (f 0 (omega arith)) in
    let q : bit_and (get_or yeses b 0) (get_or l a 0) ≡ 0 = omega (arith, and_le_r (get_or yeses b 0) (get_or l a 0), v) in
    rw (eq-eqb (bit_and (get_or yeses b 0) (get_or l a 0)) 0 q)
    (none_meets (suc b) (suc a) j yeses l
    (λ i h.
    let y : a + suc i ≡ suc a + i = omega arith in
    rw y at (f (suc i) (omega arith))))

none_gained : (w a y j : ℕ) (yeses l : List ℕ) → ((i : ℕ) → i < w → get_or l (a + i) 0 ≡ 0) → back_row w a y j yeses l ≡ l
unfolding back_row
none_gained w a y zero yeses l f = refl
none_gained w a y (suc j) yeses l f = rw (none_meets (y * w) a w yeses l f) (none_gained w a (suc y) j yeses l f)

-- It gains nothing.
pub empty_stays : (w a y j : ℕ) (yeses l : List ℕ) → meets a a w l l ≡ false → l ≡ back_row w a y j yeses l
empty_stays w a y j yeses l e = sym (none_gained w a y j yeses l (self_none a w l e))

-- ── the loops ──
module _ (w a n y : ℕ) (yeses l : List ℕ) where
  pub back_row_go : y < n → back_row w a y (n - y) yeses l ≡ back_row w a (y + 1) (n - (y + 1)) yeses (cond (meets (y * w) a w yeses l) (put a y l) l)
  unfolding back_row
  back_row_go h =
      let e : n - y ≡ suc (n - (y + 1)) = omega arith in
      let f : y + 1 ≡ suc y = omega arith in
      rw (e, f)

  pub back_row_end : n ≤ y → back_row w a y (n - y) yeses l ≡ l
  unfolding back_row
  back_row_end h = let e : n - y ≡ 0 = omega arith in rw e

module _ (w o k n x : ℕ) (yeses l : List ℕ) where
  pub back_go : x < n → back w o k x (n - x) yeses l ≡ back w o k (x + 1) (n - (x + 1)) yeses (back_row w (x * w) o k yeses l)
  unfolding back
  back_go h =
      let e : n - x ≡ suc (n - (x + 1)) = omega arith in
      let f : x + 1 ≡ suc x = omega arith in
      rw (e, f)

  pub back_end : n ≤ x → back w o k x (n - x) yeses l ≡ l
  unfolding back
  back_end h = let e : n - x ≡ 0 = omega arith in rw e
