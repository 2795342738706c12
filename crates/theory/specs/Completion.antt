-- Completion: all supported words, ascending, none twice.
use Rattle.std.specs.Prelude.{ℕ, zero, suc, ◌+◌, ◌≤◌, cond, ◌↔◌, get_or}
use mathlib.Core.List.{List, [], ◌∷◌, ◌++◌, Memᴰ}
use Rattle.theory.specs.Words.{is, isnt, word, tail_of, head_of, sign_of}
use Rattle.theory.specs.Nets.{Links}
use Rattle.theory.specs.Support.{Supported}
use Rattle.theory.specs.Marks.{says_yes, says_no}
use Rattle.theory.specs.Scans.{full_scan}

-- Ascending, none twice, none below lo.
abbrev pub Ascending : ℕ → List ℕ → Type 0
Ascending lo [] = Unit {0}
Ascending lo (w ∷ l) = (lo ≤ w) × Ascending (suc w) l

-- What a completed list is.
pub record Lists (o k : ℕ) (ws out : List ℕ) : Type 0 where
  pub ascending : Ascending 0 out
  pub exact : (w : ℕ) → Memᴰ w out ↔ Supported o k (Links ws) (tail_of w) (head_of w) (sign_of w)

-- The marks of the full scan from x.
abbrev pub full_marks : ℕ → ℕ → List ℕ → ℕ → List ℕ
full_marks o k ws x = (full_scan (o + k) ws x).marks

-- The words about x and the kind y, by y's byte: yes before no.
abbrev pub cell : ℕ → ℕ → ℕ → List ℕ
cell x y b = cond (says_yes b) (word x y is ∷ []) [] ++ cond (says_no b) (word x y isnt ∷ []) []

-- The row of x by the marks m: j kinds from y on.
unfoldable pub row : ℕ → List ℕ → ℕ → ℕ → List ℕ
row x m y zero = []
row x m y (suc j) = cell x y (get_or m y 0) ++ row x m (suc y) j

-- The rows of j nodes from x on.
unfoldable pub rows : ℕ → ℕ → List ℕ → ℕ → ℕ → List ℕ
rows o k ws x zero = []
rows o k ws x (suc j) = row x (full_marks o k ws x) o k ++ rows o k ws (suc x) j

-- The completed list, computed.
unfoldable pub complete : ℕ → ℕ → List ℕ → List ℕ
complete o k ws = rows o k ws 0 (o + k)
