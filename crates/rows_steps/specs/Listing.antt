-- The completed list out of rows, and its size.
use Rattle.std.specs.Prelude.{ℕ, zero, suc, ◌+◌, ◌*◌, Bool, cond, List, [], ◌∷◌, ◌++◌, get_or}
use Rattle.std.specs.Int.Bits.{bit_or}
use Rattle.std.specs.Int.Count.{ones}
use Rattle.theory.specs.Words.{is, isnt, word}
use Rattle.theory.specs.Marks.{has}
use Rattle.rows_steps.specs.Members.{members}

-- The words about x and the kind y: yes before no.
abbrev pub pair : ℕ → ℕ → Bool → Bool → List ℕ
pair x y p q = cond p (word x y is ∷ []) [] ++ cond q (word x y isnt ∷ []) []

-- Those about x and the nodes base + t, by the bits t of a yes word a and a no word b.
unfoldable pub word_pairs : ℕ → ℕ → ℕ → ℕ → List ℕ → List ℕ
word_pairs x base a b [] = []
word_pairs x base a b (t ∷ ts) = pair x (base + t) (has t a) (has t b) ++ word_pairs x base a b ts

-- Those about x, by j words of its rows at place a, from word i on.
unfoldable pub row_pairs : ℕ → ℕ → ℕ → ℕ → List ℕ → List ℕ → List ℕ
row_pairs x a i zero yeses noes = []
row_pairs x a i (suc j) yeses noes =
    word_pairs x (i * 64) (get_or yeses (a + i) 0) (get_or noes (a + i) 0) (members (bit_or (get_or yeses (a + i) 0) (get_or noes (a + i) 0))) ++ row_pairs x a (suc i) j yeses noes

-- Those about j nodes from x on.
unfoldable pub all_pairs : ℕ → ℕ → ℕ → List ℕ → List ℕ → List ℕ
all_pairs w x zero yeses noes = []
all_pairs w x (suc j) yeses noes = row_pairs x (x * w) 0 w yeses noes ++ all_pairs w (suc x) j yeses noes

-- How many bits are set in the j words from place a on.
unfoldable pub ones_from : ℕ → ℕ → List ℕ → ℕ
ones_from a zero l = 0
ones_from a (suc j) l = ones (get_or l a 0) + ones_from (suc a) j l
