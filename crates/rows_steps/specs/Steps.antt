-- The second engine, step by step over rows of w words: the links, the closure of yes, what is passed up, what is passed down.
use Rattle.std.specs.Prelude.{ℕ, zero, suc, ◌+◌, ◌*◌, cond, List, [], ◌∷◌, ◌++◌, eqb, ltb, get_or, drop, replicate}
use Rattle.theory.specs.Words.{tail_of, head_of, parity}
use Rattle.rows_steps.specs.Members.{members}
use Rattle.theory.specs.Rows.{width, bit_at}
use Rattle.rows_steps.specs.Rows.{put, gain, meets}

-- ── a row beside the rows ──
-- The longest row has 16 words.
abbrev pub empty_row : List ℕ
empty_row = replicate 16 0

-- A copy of the row at place a.
abbrev pub copied : ℕ → ℕ → List ℕ → List ℕ
copied w a l = gain 0 a w l empty_row

-- ── yes ──
-- (3.1): each of j kinds from p on is itself.
unfoldable pub kind_bits : ℕ → ℕ → ℕ → List ℕ → List ℕ
kind_bits w p zero l = l
kind_bits w p (suc j) l = kind_bits w (suc p) j (put (p * w) p l)

-- A → link's bit.
abbrev pub is_link : ℕ → ℕ → List ℕ → List ℕ
is_link w v l = cond (eqb (parity v) 0) (put (tail_of v * w) (head_of v) l) l

unfoldable pub is_links : ℕ → List ℕ → List ℕ → List ℕ
is_links w [] l = l
is_links w (v ∷ vs) l = is_links w vs (is_link w v l)

-- What is m is what m is, where r is the row of m: for j nodes from x on.
unfoldable pub through : ℕ → ℕ → List ℕ → ℕ → ℕ → List ℕ → List ℕ
through w m r x zero l = l
through w m r x (suc j) l = through w m r (suc x) j (cond (bit_at l (x * w) m) (gain (x * w) 0 w r l) l)

-- The same for j kinds m from m on, over n nodes: Warshall's algorithm.
unfoldable pub middles : ℕ → ℕ → ℕ → ℕ → List ℕ → List ℕ
middles w n m zero l = l
middles w n m (suc j) l = middles w n (suc m) j (through w m (copied w (m * w) l) 0 n l)

-- ── no ──
-- The bits of a ↛ link: its head in its tail's row, and its tail, if that is a kind, in its head's.
abbrev pub isnt_link : ℕ → ℕ → ℕ → List ℕ → List ℕ
isnt_link o w v l =
    cond (eqb (parity v) 0) l
    (cond (ltb (tail_of v) o) (put (tail_of v * w) (head_of v) l)
    (put (head_of v * w) (tail_of v) (put (tail_of v * w) (head_of v) l)))

unfoldable pub isnt_links : ℕ → ℕ → List ℕ → List ℕ → List ℕ
isnt_links o w [] l = l
isnt_links o w (v ∷ vs) l = isnt_links o w vs (isnt_link o w v l)

-- The row r gains the rows of the nodes base + t of l.
unfoldable pub gather_nodes : ℕ → ℕ → List ℕ → List ℕ → List ℕ → List ℕ
gather_nodes w base [] l r = r
gather_nodes w base (t ∷ ts) l r = gather_nodes w base ts l (gain 0 ((base + t) * w) w l r)

-- The nodes are those in j words, from word i on, of the yes row at place a.
unfoldable pub gather_words : ℕ → ℕ → ℕ → ℕ → List ℕ → List ℕ → List ℕ → List ℕ
gather_words w a i zero yeses l r = r
gather_words w a i (suc j) yeses l r = gather_words w a (suc i) j yeses l (gather_nodes w (i * 64) (members (get_or yeses (a + i) 0)) l r)

-- (3.4) for j nodes from x on.
unfoldable pub gather : ℕ → ℕ → ℕ → List ℕ → List ℕ → List ℕ
gather w x zero yeses l = l
gather w x (suc j) yeses l = gather w (suc x) j yeses (gain (x * w) 0 w (gather_words w (x * w) 0 w yeses l empty_row) l)

-- The row at place a gains each of j kinds from y on whose yes row has a bit of it.
unfoldable pub back_row : ℕ → ℕ → ℕ → ℕ → List ℕ → List ℕ → List ℕ
back_row w a y zero yeses l = l
back_row w a y (suc j) yeses l = back_row w a (suc y) j yeses (cond (meets (y * w) a w yeses l) (put a y l) l)

-- (3.5), and for kinds (3.3) and (3.4), for j nodes from x on.
unfoldable pub back : ℕ → ℕ → ℕ → ℕ → ℕ → List ℕ → List ℕ → List ℕ
back w o k x zero yeses l = l
back w o k x (suc j) yeses l = back w o k (suc x) j yeses (back_row w (x * w) o k yeses l)

-- ── all steps ──
abbrev pub blank_rows : ℕ → List ℕ → List ℕ
blank_rows z l = replicate z 0 ++ drop z l

-- The yes rows, from any l.
abbrev pub yes_rows : ℕ → ℕ → List ℕ → List ℕ → List ℕ
yes_rows o k ws l =
    let w = width (o + k) in
    middles w (o + k) o k (is_links w ws (kind_bits w o k (blank_rows ((o + k) * w) l)))

-- The no rows, from any l, by the yes rows.
abbrev pub no_rows : ℕ → ℕ → List ℕ → List ℕ → List ℕ → List ℕ
no_rows o k ws yeses l =
    let w = width (o + k) in
    back w o k 0 (o + k) yeses (gather w 0 (o + k) yeses (isnt_links o w ws (blank_rows ((o + k) * w) l)))
