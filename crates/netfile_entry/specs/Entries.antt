-- The entries of a net file's contents: how many there are, where a body has to start, how long it may be, and where it may end.
use Rattle.std.specs.Prelude.{ℕ, ◌+◌, ◌*◌, ◌%◌, Bool, cond, ◌&&◌, List, leb, eqb, length, Option, Some, None}
use Rattle.netfile_numbers.specs.Bytes.{u32_at}

-- The number of entries: a first start of 32 means four, anything else three.
unfoldable pub entries : List ℕ → ℕ
entries s = cond (eqb (u32_at s 0) 32) 4 3

-- The size of the contents, with which every file begins: eight bytes an entry.
abbrev pub contents_size : ℕ → ℕ
contents_size count = count * 8

-- A body's length: of the first exactly 8, of the fourth exactly 4, of the others a multiple of 4.
abbrev pub right_length : ℕ → ℕ → Bool
right_length n size = cond (eqb n 0) (eqb size 8) (cond (eqb n 3) (eqb size 4) (eqb (size % 4) 0))

-- A body's end: of the last the end of the file, of the others not beyond it.
abbrev pub right_end : ℕ → ℕ → ℕ → ℕ → Bool
right_end count n end size = cond (eqb (n + 1) count) (eqb end size) (leb end size)

-- Entry n of `count`, whose body has to start at `from`, can be opened: its start, its length and its end are right. The end is a sum of whole numbers.
abbrev pub entry_opens : ℕ → List ℕ → ℕ → ℕ → Bool
entry_opens count s n from = eqb (u32_at s (n * 8)) from && (right_length n (u32_at s (n * 8 + 4)) && right_end count n (from + u32_at s (n * 8 + 4)) (length s))

-- What it says: the body's start and end.
unfoldable pub entry_at : ℕ → List ℕ → ℕ → ℕ → Option (ℕ × ℕ)
entry_at count s n from = cond (entry_opens count s n from) (Some (from, from + u32_at s (n * 8 + 4))) None

-- The fourth entry. Where there are three, an empty stretch stands for it, at the end of the third body.
abbrev pub fourth_at : ℕ → List ℕ → ℕ → Option (ℕ × ℕ)
fourth_at count s from = cond (eqb count 3) (Some (from, from)) (entry_at count s 3 from)
