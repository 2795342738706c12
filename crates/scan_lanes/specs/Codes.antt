-- How the marks of a node are written in the lanes. A lane has two bits: one says that the marker tested for stands at the node, as it did when the pass began; the other
-- that the marker put is missing there, and it is struck out when the mark is put. For a command that tests heads and marks tails the first is the lower one.
use Rattle.std.specs.Prelude.{ℕ, zero, suc, ◌+◌, ◌*◌, ◌/◌, ◌%◌, ◌-◌, ◌^◌, ◌<◌, ◌≡◌, Bool, false, not, ◌||◌, List, [], ◌∷◌, eqb, get_or}
use Rattle.std.specs.Int.Bits.{bit_and}
use Rattle.theory_laws.specs.Deciding.{Decides}
use Rattle.theory.specs.Marks.{T, F, U, has}

-- Bit j of a byte, 0 or 1.
abbrev pub bit : ℕ → ℕ → ℕ
bit j b = b / 2 ^ j % 2

-- The pass over "is": lane 0 hands T down, lane 1 hands F down, lane 2 hands U up.
abbrev pub is_code : ℕ → ℕ
is_code b = bit T b + bit F b * 2 + (1 - bit U b) * 4 + (1 - bit T b) * 16 + (1 - bit F b) * 32 + bit U b * 64

-- The marks of such a byte, those put in the pass among them.
abbrev pub is_marks : ℕ → ℕ
is_marks e = (1 - bit 4 e) + (1 - bit 5 e) * 2 + (1 - bit 2 e) * 4

-- The pass over "is not": where U stands at a head, lane 0 puts F at the tail; where it stands at a tail, lane 2 puts F at the head. Lane 1 has nothing to put: its
-- lower bit keeps F as it was, and bit 3 keeps T.
abbrev pub isnt_code : ℕ → ℕ
isnt_code b = bit U b + bit F b * 2 + (1 - bit F b) * 4 + bit T b * 8 + (1 - bit F b) * 16 + bit U b * 64

-- The marks of such a byte: F is missing only where neither lane has put it.
abbrev pub isnt_marks : ℕ → ℕ
isnt_marks e = bit 3 e + (1 - bit 2 e * bit 4 e) * 2 + bit 0 e * 4

-- The bytes of n nodes, each changed by f; those past them as they were.
unfoldable pub on_nodes : (ℕ → ℕ) → ℕ → List ℕ → List ℕ
on_nodes f zero m = m
on_nodes f (suc n) [] = []
on_nodes f (suc n) (b ∷ m) = f b ∷ on_nodes f n m

-- The bits that are new where a byte e, whose marks g reads, is written anew for the pass over "is": 0, 1 and 6 stand for T, F and U that have come.
abbrev pub new_in : (ℕ → ℕ) → ℕ → ℕ
new_in g e = bit_and (is_code (g e)) (255 - e)

-- Bit i is missing in r exactly if it is new at none of n nodes.
abbrev pub NoneNew : (ℕ → ℕ) → ℕ → ℕ → List ℕ → ℕ → Type 0
NoneNew g i n m r = Decides (not (has i r)) ((v : ℕ) → v < n → has i (new_in g (get_or m v 0)) ≡ false)

-- One of T, F and U is among the new bits r.
abbrev pub any_new : ℕ → Bool
any_new r = has 6 r || not (eqb (r % 4) 0)

-- The marks of n nodes whose bytes are written for the pass over "is".
abbrev pub marks_of : ℕ → List ℕ → List ℕ
marks_of n m = on_nodes is_marks n m

-- Bytes are written for it where they are just what their marks are written as.
abbrev pub Written : ℕ → List ℕ → Type 0
Written n m = m ≡ on_nodes is_code n (marks_of n m)
