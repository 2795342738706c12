-- Readings of the test of a table, by computation.
use Prim.Native.Nat.{ℕ}
use mathlib.Core.Path.{◌≡◌, refl}
use mathlib.Core.Bool.{true, false}
use mathlib.Core.List.{List, [], ◌∷◌}
use Rattle.theory.specs.Words.{is, isnt}
use Rattle.theory.specs.Valuations.{byte_at, everywhere, satisfies}

-- The values of net M, as they are shown to be where it is filled and tested: six elements of four kinds.
abbrev pub values_m : List ℕ
values_m = 1 ∷ 2 ∷ 2 ∷ 2 ∷ 2 ∷ 1 ∷ 1 ∷ 1 ∷ 1 ∷ 2 ∷ 2 ∷ 2 ∷ 2 ∷ 1 ∷ 0 ∷ 0 ∷ 2 ∷ 1 ∷ 1 ∷ 0 ∷ 2 ∷ 1 ∷ 1 ∷ 1 ∷ []

-- One object 0, kinds 1 and 2. The object has T at 1 and F at 2; 1's witness T at 1; 2's witness both at 2.
abbrev bytes : List ℕ
bytes = 1 ∷ 2 ∷ 1 ∷ 0 ∷ 0 ∷ 3 ∷ []

pub object_at_2 : byte_at 1 2 bytes 0 2 ≡ 2
object_at_2 = refl

pub witness_at_2 : byte_at 1 2 bytes 2 2 ≡ 3
witness_at_2 = refl

-- Of the object one byte decides.
pub object_is_1 : satisfies 1 2 bytes 0 1 is ≡ true
object_is_1 = refl

pub object_is_not_2 : satisfies 1 2 bytes 0 2 isnt ≡ true
object_is_not_2 = refl

pub object_not_is_2 : satisfies 1 2 bytes 0 2 is ≡ false
object_not_is_2 = refl

-- 2 → 2 holds, as in every valuation, and so does 2 ↛ 2: whatever has T there has F.
pub same_kind : satisfies 1 2 bytes 2 2 is ≡ true
unfolding everywhere
same_kind = refl

pub not_itself : satisfies 1 2 bytes 2 2 isnt ≡ true
unfolding everywhere
not_itself = refl

-- 1 → 2 fails at 1's witness, 1 ↛ 2 there too.
pub no_arrow : satisfies 1 2 bytes 1 2 is ≡ false
unfolding everywhere
no_arrow = refl

pub no_crossing : satisfies 1 2 bytes 1 2 isnt ≡ false
unfolding everywhere
no_crossing = refl

-- Both conditions of (6.3) count. Kinds 0 and 1, T nowhere: 0 → 1 fails where an element has F at 1 and not at 0.
pub second_condition : satisfies 0 2 (0 ∷ 2 ∷ 0 ∷ 0 ∷ []) 0 1 is ≡ false
unfolding everywhere
second_condition = refl
