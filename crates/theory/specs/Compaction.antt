-- Compaction ([7]): sorted, each word once, and from the highest word down without the words that those still there support.
use Rattle.std.specs.Prelude.{ℕ, zero, suc, ◌<◌, ◌≡◌, Bool, cond, ◌⊎◌, ◌↔◌, length, get_or, take, drop}
use mathlib.Core.List.{List, ◌++◌, Memᴰ}
use Rattle.theory.specs.Words.{tail_of, head_of, sign_of}
use Rattle.theory.specs.Nets.{Links}
use Rattle.theory.specs.Support.{Supported}
use Rattle.theory.specs.Marks.{marker_of, has}
use Rattle.theory.specs.Completion.{Ascending, full_marks}
use Rattle.theory.specs.Sorting.{tidied}

-- The list without the word at place i.
abbrev pub without : ℕ → List ℕ → List ℕ
without i l = take i l ++ drop (suc i) l

-- The words ws support what the word w says.
abbrev pub Supports : ℕ → ℕ → List ℕ → ℕ → Type 0
Supports o k ws w = Supported o k (Links ws) (tail_of w) (head_of w) (sign_of w)

-- `out` is l thinned: of its first i words, tested from place i − 1 down, each that the words then present support without it has gone.
abbrev pub Thinned : ℕ → ℕ → ℕ → List ℕ → List ℕ → Type 0
Thinned o k zero l out = out ≡ l
Thinned o k (suc i) l out =
    (Supports o k (without i l) (get_or l i 0) × Thinned o k i (without i l) out)
    ⊎ ((Supports o k (without i l) (get_or l i 0) → ⊥) × Thinned o k i l out)

-- `out` is what the words ws are compacted to: `list` has each of them once, ascending, and is thinned from its end.
pub record Compacted (o k : ℕ) (ws out : List ℕ) : Type 0 where
  pub list : List ℕ
  pub ascending : Ascending 0 list
  pub same : (w : ℕ) → Memᴰ w list ↔ Memᴰ w ws
  pub thinned : Thinned o k (length list) list out

-- No word is supported by the others.
abbrev pub Needed : ℕ → ℕ → List ℕ → Type 0
Needed o k l = (j : ℕ) → j < length l → Supports o k (without j l) (get_or l j 0) → ⊥

-- The test of one word: the marker that the full scan from its tail leaves at its head.
abbrev pub supports : ℕ → ℕ → List ℕ → ℕ → Bool
supports o k ws w = has (marker_of (sign_of w)) (get_or (full_marks o k ws (tail_of w)) (head_of w) 0)

-- The thinned list, computed.
unfoldable pub thin : ℕ → ℕ → ℕ → List ℕ → List ℕ
thin o k zero l = l
thin o k (suc i) l = cond (supports o k (without i l) (get_or l i 0)) (thin o k i (without i l)) (thin o k i l)

-- The compacted list, computed.
abbrev pub compacted : ℕ → ℕ → List ℕ → List ℕ
compacted o k ws = thin o k (length (tidied ws)) (tidied ws)
