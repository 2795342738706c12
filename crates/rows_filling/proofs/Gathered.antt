-- The loops that gather rows, in the terms of the code: a turn more, and the end.
use Prim.Native.Nat.{ℕ, suc, ◌+◌, ◌-◌, ◌*◌, ◌/◌, ◌%◌, ◌^◌, ◌≤◌, ◌<◌}
use mathlib.Core.Path.{◌≡◌, sym, ◌∙◌}
use mathlib.Core.Bool.{true}
use mathlib.Core.List.{List}
use native.Mathlib.Omega.{arith}
use lib.ListN.{get_or}
use lib.Bits.{bit_and}
use lib.Count.{count_trailing_zeros}
use Rattle.theory_laws.proofs.Bits.{bit_and_lem}
use Rattle.theory_laws.proofs.Booleans.{and_left}
use Rattle.theory.specs.Marks.{has}
use Rattle.theory.specs.Rows.{bit_at}
use Rattle.rows_steps.specs.Members.{members}
use Rattle.rows_steps.specs.Rows.{gain}
use Rattle.rows_steps.specs.Steps.{empty_row, gather_nodes, gather_words, gather}
use Rattle.rows_steps.proofs.Lowest.{lowest}
use Rattle.rows_steps.proofs.Members.{members_next, members_none}
use Rattle.rows_filling.specs.Below.{Below}

-- ── the nodes of a word ──
module _ (v : ℕ) (some : v ≡ 0 → ⊥) (small : v < 2 ^ 64) where
  pub next_below : (base n : ℕ) → Below base n v → base + count_trailing_zeros 64 v < n
  next_below base n f = let low = lowest 64 v (omega arith) small in f (count_trailing_zeros 64 v) low.below low.set

  pub rest_below : (base n : ℕ) → Below base n v → Below base n (bit_and v (v - 1))
  rest_below base n f t h e = f t h (and_left (has t v) (has t (v - 1)) (sym (bit_and_lem t v (v - 1)) ∙ e))

  pub nodes_go : (w base : ℕ) (l r : List ℕ)
      → gather_nodes w base (members v) l r ≡ gather_nodes w base (members (bit_and v (v - 1))) l (gain 0 ((base + count_trailing_zeros 64 v) * w) w l r)
  unfolding gather_nodes
  nodes_go w base l r = rw (members_next v (omega arith) small)

pub nodes_end : (w base v : ℕ) (l r : List ℕ) → v ≡ 0 → gather_nodes w base (members v) l r ≡ r
unfolding gather_nodes
nodes_end w base v l r e = rw (e, members_none)

-- ── the words of a row ──
-- The nodes of word i of a row.
pub word_below : (w a i n : ℕ) (l : List ℕ) → i < w → ((q : ℕ) → q < w * 64 → bit_at l a q ≡ true → q < n) → Below (i * 64) n (get_or l (a + i) 0)
word_below w a i n l h f t g e =
    let p : (i * 64 + t) / 64 ≡ i = omega arith in
    let q : (i * 64 + t) % 64 ≡ t = omega arith in
    f (i * 64 + t) (omega arith) (rw (p, q) e)

module _ (w a i : ℕ) (yeses l r : List ℕ) where
  pub words_go : i < w → gather_words w a i (w - i) yeses l r ≡ gather_words w a (i + 1) (w - (i + 1)) yeses l (gather_nodes w (i * 64) (members (get_or yeses (a + i) 0)) l r)
  unfolding gather_words
  words_go h =
      let e : w - i ≡ suc (w - (i + 1)) = omega arith in
      let f : i + 1 ≡ suc i = omega arith in
      rw (e, f)

  pub words_end : w ≤ i → gather_words w a i (w - i) yeses l r ≡ r
  unfolding gather_words
  words_end h = let e : w - i ≡ 0 = omega arith in rw e

-- ── the rows ──
module _ (w n x : ℕ) (yeses l : List ℕ) where
  pub gather_go : x < n → gather w x (n - x) yeses l ≡ gather w (x + 1) (n - (x + 1)) yeses (gain (x * w) 0 w (gather_words w (x * w) 0 w yeses l empty_row) l)
  unfolding gather
  gather_go h =
      let e : n - x ≡ suc (n - (x + 1)) = omega arith in
      let f : x + 1 ≡ suc x = omega arith in
      rw (e, f)

  pub gather_end : n ≤ x → gather w x (n - x) yeses l ≡ l
  unfolding gather
  gather_end h = let e : n - x ≡ 0 = omega arith in rw e
