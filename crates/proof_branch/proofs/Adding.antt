-- One more added word, and that what was added before stays.
use Prim.Native.Nat.{ℕ, zero, suc, ◌+◌, ◌≤◌, ◌<◌}
use mathlib.Core.Path.{◌≡◌, refl, ap, ◌∙◌}
use mathlib.Core.List.{List, [], ◌∷◌}
use native.Mathlib.Omega.{arith}
use native.Mathlib.Numerals.{add-one}
use lib.ListN.{length, set}
use lib.Seq.{get_or-set_same, get_or-set_other}
use Rattle.proof_given.specs.Held.{held}

held_below : (l : List ℕ) (i c v : ℕ) → c ≤ i → held (set l i v) c ≡ held l c
unfolding held
held_below l i zero v h = refl
held_below l i (suc c) v h = rw (get_or-set_other l i c v 0 (λ e. omega (arith, h, e)), held_below l i c v (omega (arith, h)))

pub held_more : (l : List ℕ) (c v : ℕ) → c < length l → held (set l c v) (c + 1) ≡ v ∷ held l c
unfolding held
held_more l c v h = rw (add-one c, get_or-set_same l c v 0 h, held_below l c c v (omega arith))

rest : List ℕ → List ℕ
rest [] = []
rest (v ∷ l) = l

-- Of a buffer that kept its first words.
pub held_kept : (l k : List ℕ) (c v : ℕ) → c < length l → held k (c + 1) ≡ held (set l c v) (c + 1) → held k c ≡ held l c
unfolding held rest
held_kept l k c v h e = ap rest (rw (add-one c) at (e ∙ held_more l c v h))
