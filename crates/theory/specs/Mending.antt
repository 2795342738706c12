-- Mending ([9]): which words are kept and which dropped, as a meaning, and computed with one scan a word.
use Rattle.std.specs.Prelude.{ℕ, zero, suc, ◌+◌, ◌*◌, ◌≡◌, Bool, cond, ◌&&◌, List, [], ◌∷◌, ◌++◌, ◌⊎◌, eqb, ltb, get_or}
use Rattle.theory.specs.Words.{tail_of, head_of, parity}
use Rattle.theory.specs.Marks.{T, F, U, has, mark, blank, commands, scan_start}
use Rattle.theory.specs.Scans.{rounds}
use Rattle.theory.specs.Clashes.{SmallestClash, ClashFree}

-- A dropped word, and the node and kind that it would have clashed at.
pub record DroppedWord : Type 0 where
  pub word : ℕ
  pub node : ℕ
  pub kind : ℕ

abbrev pub dropped_at : ℕ → ℕ → ℕ → DroppedWord
dropped_at w x y = record { word = w; node = x; kind = y }

-- The dropped words as they are written: three numbers each.
unfoldable pub threes : List DroppedWord → List ℕ
threes [] = []
threes (d ∷ ds) = d.word ∷ d.node ∷ d.kind ∷ threes ds

-- From `kept` on, the words in listed order give `out` and `ds`: each is kept exactly if those kept so far have no clash together with it,
-- and else dropped with the smallest clash that it would make.
abbrev pub Mended : ℕ → ℕ → List ℕ → List ℕ → List ℕ → List DroppedWord → Type 0
Mended o k kept [] out ds = (out ≡ kept) × (ds ≡ [])
Mended o k kept (w ∷ ws) out ds =
    (ClashFree o k (kept ++ w ∷ []) × Mended o k (kept ++ w ∷ []) ws out ds)
    ⊎ ((x : ℕ) × (y : ℕ) × (rest : List DroppedWord) × SmallestClash o k (kept ++ w ∷ []) x y × (ds ≡ dropped_at w x y ∷ rest) × Mended o k kept ws out rest)

-- `out` is a part of ws in its order, repeats counted.
pub data PartOf : List ℕ → List ℕ → Type 0 where
  no_words : PartOf [] []
  takes : {w : ℕ} {out ws : List ℕ} → PartOf out ws → PartOf (w ∷ out) (w ∷ ws)
  skips : {w : ℕ} {out ws : List ℕ} → PartOf out ws → PartOf out (w ∷ ws)

-- d was dropped where the words `before` were kept, which stand in front of `out`: it has the smallest clash that it makes with them.
pub record Rejected (o k : ℕ) (out : List ℕ) (d : DroppedWord) : Type 0 where
  pub before : List ℕ
  pub rest : List ℕ
  pub whole : out ≡ before ++ rest
  pub clash : SmallestClash o k (before ++ d.word ∷ []) d.node d.kind

-- The marks to begin with for one word more: T at its tail, and at its head U if it says →, F if it says ↛.
abbrev pub head_marker : ℕ → ℕ
head_marker w = cond (eqb (parity w) 0) U F

abbrev pub link_start : ℕ → ℕ → List ℕ
link_start n w = mark (head_marker w) (head_of w) (mark T (tail_of w) (blank n))

-- What the five commands leave of the marks m: so many rounds are never all needed.
abbrev pub settled_marks : ℕ → List ℕ → List ℕ → List ℕ
settled_marks n ws m = (rounds commands ws 0 (3 * n + 1) m).marks

-- The first of j nodes from v on that has both markers, or the one after them.
unfoldable pub first_with : ℕ → ℕ → List ℕ → ℕ → ℕ → ℕ
first_with a b m v zero = v
first_with a b m v (suc j) = cond (has a (get_or m v 0) && has b (get_or m v 0)) v (first_with a b m (suc v) j)

-- The first node that clashes in a net that had no clash without the word w; n where none does.
abbrev pub clashing_node : ℕ → List ℕ → ℕ → ℕ
clashing_node n ws w = first_with T F (settled_marks n ws (link_start n w)) 0 n

-- The first kind at which x clashes.
abbrev pub clashing_kind : ℕ → ℕ → List ℕ → ℕ → ℕ
clashing_kind o k ws x = first_with U F (settled_marks (o + k) ws (scan_start (o + k) x)) o k

-- Those kept so far have a clash together with w.
abbrev pub rejects : ℕ → ℕ → List ℕ → ℕ → Bool
rejects o k kept w = ltb (clashing_node (o + k) (kept ++ w ∷ []) w) (o + k)

-- The word with the clash that it would make.
abbrev pub rejected : ℕ → ℕ → List ℕ → ℕ → DroppedWord
rejected o k kept w =
    dropped_at w (clashing_node (o + k) (kept ++ w ∷ []) w) (clashing_kind o k (kept ++ w ∷ []) (clashing_node (o + k) (kept ++ w ∷ []) w))

-- The words kept at the end, where `kept` are those kept so far.
unfoldable pub kept_from : ℕ → ℕ → List ℕ → List ℕ → List ℕ
kept_from o k kept [] = kept
kept_from o k kept (w ∷ ws) = cond (rejects o k kept w) (kept_from o k kept ws) (kept_from o k (kept ++ w ∷ []) ws)

-- The words dropped from there on.
unfoldable pub dropped_from : ℕ → ℕ → List ℕ → List ℕ → List DroppedWord
dropped_from o k kept [] = []
dropped_from o k kept (w ∷ ws) = cond (rejects o k kept w) (rejected o k kept w ∷ dropped_from o k kept ws) (dropped_from o k (kept ++ w ∷ []) ws)
