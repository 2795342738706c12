-- The loops of the closure, in the terms of the code: a turn more, and the end.
use Prim.Native.Nat.{ℕ, suc, ◌+◌, ◌-◌, ◌*◌, ◌≤◌, ◌<◌}
use mathlib.Core.Path.{◌≡◌}
use mathlib.Core.Bool.{cond}
use mathlib.Core.List.{List}
use native.Mathlib.Omega.{arith}
use Rattle.theory.specs.Rows.{bit_at}
use Rattle.rows_steps.specs.Rows.{gain}
use Rattle.rows_steps.specs.Steps.{copied, through, middles}

module _ (w m : ℕ) (r : List ℕ) (n x : ℕ) (l : List ℕ) where
  pub through_go : x < n → through w m r x (n - x) l ≡ through w m r (x + 1) (n - (x + 1)) (cond (bit_at l (x * w) m) (gain (x * w) 0 w r l) l)
  unfolding through
  through_go h =
      let e : n - x ≡ suc (n - (x + 1)) = omega arith in
      let f : x + 1 ≡ suc x = omega arith in
      rw (e, f)

  pub through_end : n ≤ x → through w m r x (n - x) l ≡ l
  unfolding through
  through_end h = let e : n - x ≡ 0 = omega arith in rw e

module _ (w n m : ℕ) (l : List ℕ) where
  pub middles_go : m < n → middles w n m (n - m) l ≡ middles w n (m + 1) (n - (m + 1)) (through w m (copied w (m * w) l) 0 n l)
  unfolding middles
  middles_go h =
      let e : n - m ≡ suc (n - (m + 1)) = omega arith in
      let f : m + 1 ≡ suc m = omega arith in
      rw (e, f)

  pub middles_end : n ≤ m → middles w n m (n - m) l ≡ l
  unfolding middles
  middles_end h = let e : n - m ≡ 0 = omega arith in rw e
