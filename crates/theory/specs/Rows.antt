-- Rows of bits ([6]) in words of 64: one row a node, node y its bit y. What the rows of a net mean, and the rows computed.
use Rattle.std.specs.Prelude.{ℕ, zero, suc, ◌+◌, ◌*◌, ◌/◌, ◌%◌, ◌^◌, ◌<◌, ◌≡◌, Bool, true, cond, ◌&&◌, List, [], ◌∷◌, ◌++◌, ◌↔◌, leb, ltb, get_or}
use Rattle.theory.specs.Words.{Sign}
use Rattle.theory.specs.Nets.{Links}
use Rattle.theory.specs.Support.{Supported}
use Rattle.theory.specs.Marks.{has, marker_of}
use Rattle.theory.specs.Completion.{full_marks}

-- How many whole words hold n bits: row x stands at the places from x times the width on.
abbrev pub width : ℕ → ℕ
width n = (n + 63) / 64

-- How many words the rows of n nodes take.
abbrev pub rows_size : ℕ → ℕ
rows_size n = n * width n

-- Every number of a list is one of 64 bits.
abbrev pub Wide : List ℕ → Type 0
Wide l = (i : ℕ) → get_or l i 0 < 2 ^ 64

-- Bit y of the row that starts at place a.
abbrev pub bit_at : List ℕ → ℕ → ℕ → Bool
bit_at l a y = has (y % 64) (get_or l (a + y / 64) 0)

-- The meaning: bit y of row x is set exactly if the statement of x and y is supported. So bits at objects, and behind the last node, are not.
abbrev pub Exact : ℕ → ℕ → List ℕ → Sign → List ℕ → Type 0
Exact o k ws s l = (x y : ℕ) → x < o + k → y < width (o + k) * 64 → (bit_at l (x * width (o + k)) y ≡ true) ↔ Supported o k (Links ws) x y s

-- What the full scan from x says about y: at a kind, the marker for the sign.
abbrev pub answers : ℕ → ℕ → List ℕ → Sign → ℕ → ℕ → Bool
answers o k ws s x y = (leb o y && ltb y (o + k)) && has (marker_of s) (get_or (full_marks o k ws x) y 0)

-- j answers, from f b on, as the bits of a number.
unfoldable pub bits_of : (ℕ → Bool) → ℕ → ℕ → ℕ
bits_of f b zero = 0
bits_of f b (suc j) = bits_of f (suc b) j * 2 + cond (f b) 1 0

-- Answers as words: j words from answer b on.
unfoldable pub words_of : (ℕ → Bool) → ℕ → ℕ → List ℕ
words_of f b zero = []
words_of f b (suc j) = bits_of f b 64 ∷ words_of f (b + 64) j

-- The rows of j nodes from x on, each of w words.
unfoldable pub rows_of : (ℕ → ℕ → Bool) → ℕ → ℕ → ℕ → List ℕ
rows_of f w x zero = []
rows_of f w x (suc j) = words_of (f x) 0 w ++ rows_of f w (suc x) j

-- The rows of a net, computed.
unfoldable pub supported_rows : ℕ → ℕ → List ℕ → Sign → List ℕ
supported_rows o k ws s = rows_of (answers o k ws s) (width (o + k)) 0 (o + k)
