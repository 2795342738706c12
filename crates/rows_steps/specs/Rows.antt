-- What is done to rows of words: a bit set, a row joined to another, two rows compared.
use Rattle.std.specs.Prelude.{ℕ, zero, suc, ◌+◌, ◌/◌, ◌%◌, Bool, false, not, ◌||◌, List, eqb, get_or, set}
use Rattle.std.specs.Int.Bits.{bit_or, bit_and}
use Rattle.theory.specs.Marks.{with}

-- Bit y of the row that starts at place a is set.
unfoldable pub put : ℕ → ℕ → List ℕ → List ℕ
put a y l = set l (a + y / 64) (with (y % 64) (get_or l (a + y / 64) 0))

-- The j words of l from place a on gain what the j words of r from place b on have.
unfoldable pub gain : ℕ → ℕ → ℕ → List ℕ → List ℕ → List ℕ
gain a b zero r l = l
gain a b (suc j) r l = gain (suc a) (suc b) j r (set l a (bit_or (get_or l a 0) (get_or r b 0)))

-- Whether j words of l from place a on and j words of r from place b on have a bit in common.
unfoldable pub meets : ℕ → ℕ → ℕ → List ℕ → List ℕ → Bool
meets a b zero l r = false
meets a b (suc j) l r = not (eqb (bit_and (get_or l a 0) (get_or r b 0)) 0) || meets (suc a) (suc b) j l r
