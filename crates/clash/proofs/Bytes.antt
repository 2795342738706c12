-- The search for a kind at which yes and no stand both, as the code reads its byte.
use Prim.Native.Nat.{ℕ, suc, ◌+◌, ◌-◌, ◌/◌, ◌%◌, ◌<◌, ◌≤◌}
use mathlib.Core.Path.{◌≡◌}
use mathlib.Core.List.{List}
use native.Mathlib.Omega.{arith}
use native.Mathlib.Numerals.{add-one}
use lib.ListN.{get_or}
use Rattle.theory.proofs.machine.Bytes.{says_both, not_both}
use Rattle.clash.specs.Table.{first_both}

-- In the terms of a loop that has come to kind y of n.
module _ (m : List ℕ) (y n : ℕ) where
  pub both_stop : y < n → get_or m y 0 / 2 % 4 ≡ 3 → first_both m y (n - y) ≡ y
  unfolding first_both
  both_stop l h =
      let e : n - y ≡ suc (n - suc y) = omega arith in
      rw (e, says_both (get_or m y 0) h)

  pub both_go : y < n → (get_or m y 0 / 2 % 4 ≡ 3 → ⊥) → first_both m y (n - y) ≡ first_both m (y + 1) (n - (y + 1))
  unfolding first_both
  both_go l h =
      let e : n - y ≡ suc (n - suc y) = omega arith in
      rw (add-one y, e, not_both (get_or m y 0) h)

  pub both_end : n ≤ y → first_both m y (n - y) ≡ y
  unfolding first_both
  both_end l =
      let e : n - y ≡ 0 = omega arith in
      rw e
