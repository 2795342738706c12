-- The search for two markers, in the terms of a loop that has come to node v of n, and with more bytes behind the marks.
use Prim.Native.Nat.{ℕ, zero, suc, ◌+◌, ◌-◌, ◌≤◌, ◌<◌}
use mathlib.Core.Path.{◌≡◌, refl, sym, ◌∙◌}
use mathlib.Core.Bool.{Bool, true, false, ◌&&◌}
use mathlib.Core.List.{List, ◌++◌}
use native.Mathlib.Omega.{arith}
use native.Mathlib.Numerals.{add-one}
use lib.ListN.{length, get_or, get_or-append}
use Rattle.theory.specs.Marks.{has}
use Rattle.theory.specs.Mending.{first_with}

module _ (a b : ℕ) (m : List ℕ) (v n : ℕ) {t : Bool} (e : t ≡ (has a (get_or m v 0) && has b (get_or m v 0))) where
  pub with_stop : v < n → t ≡ true → first_with a b m v (n - v) ≡ v
  unfolding first_with
  with_stop l h =
      let i : n - v ≡ suc (n - suc v) = omega arith in
      rw (i, sym e ∙ h)

  pub with_go : v < n → t ≡ false → first_with a b m v (n - v) ≡ first_with a b m (v + 1) (n - (v + 1))
  unfolding first_with
  with_go l h =
      let i : n - v ≡ suc (n - suc v) = omega arith in
      rw (add-one v, i, sym e ∙ h)

pub with_end : (a b : ℕ) (m : List ℕ) (v n : ℕ) → n ≤ v → first_with a b m v (n - v) ≡ v
unfolding first_with
with_end a b m v n l =
    let i : n - v ≡ 0 = omega arith in
    rw i

pub with_frame : (a b : ℕ) (m past : List ℕ) (v j : ℕ) → v + j ≤ length m → first_with a b (m ++ past) v j ≡ first_with a b m v j
unfolding first_with
with_frame a b m past v zero l = refl
with_frame a b m past v (suc j) l =
    rw (get_or-append m past 0 v (omega arith), with_frame a b m past (suc v) j (omega arith))
