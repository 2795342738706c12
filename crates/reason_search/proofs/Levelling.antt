-- The levels one after another, in the terms of the code.
use Prim.Native.Nat.{ℕ, zero, suc, ◌+◌, ◌≤◌, ◌<◌}
use mathlib.Core.Path.{◌≡◌, refl, sym, ap, ◌∙◌}
use mathlib.Core.List.{List, [], ◌∷◌}
use native.Mathlib.Omega.{arith}
use lib.ListN.{length, get_or, set, drop, replicate}
use Rattle.theory.specs.Words.{sign_at}
use Rattle.theory.specs.Nets.{Kind, Net}
use Rattle.theory.specs.Reasons.{goal, never}
use Rattle.theory.specs.Searches.{arcs, level, levels, distances}
use Rattle.theory.specs.Origins.{chosen, NetFrom, EndsFrom}
use Rattle.theory.proofs.Inside.{at_member}
use Rattle.theory.proofs.origins.Folds.{chosen_level_go}
use Rattle.theory.proofs.reason.Searching.{levels_start, levels_go, search_stops, search_ends}
use Rattle.reason_search.proofs.WordMoves.{word_moves}
use Rattle.reason_search.proofs.Opening.{level_none, level_two}

-- Word j of a net has an origin of at most 3, and the ends of the plain word are nodes.
pub ends_at : (n : ℕ) (ws : List ℕ) → NetFrom 0 n ws → (j : ℕ) → j < length ws → EndsFrom n (get_or ws j 0)
ends_at n ws net j h =
    let w = net.legal (get_or ws j 0) (at_member ws j h) in
    record { origin = w.origin; ends = record { tail_in = omega (arith, w.plain.tail); head_in = omega (arith, w.plain.head.high) } }

-- A level over the chosen words has come to word j, and made of the places what the word does to them.
pub level_more : (set n s : ℕ) (ws : List ℕ) (i j : ℕ) (d : List ℕ) {c b : List ℕ} → j < length ws → c ≡ level i (arcs n (sign_at s) (chosen set (drop j ws))) d
    → b ≡ level i (arcs n (sign_at s) (chosen set (get_or ws j 0 ∷ []))) d
    → c ≡ level i (arcs n (sign_at s) (chosen set (drop (j + 1) ws))) b
level_more set n s ws i j d at rest e =
    rest
    ∙ chosen_level_go set n (sign_at s) i ws j d at
    ∙ ap (level i (arcs n (sign_at s) (chosen set (drop (j + 1) ws)))) (sym (e ∙ word_moves (level i) (level_none i) (level_two i) set n s (get_or ws j 0) d))

-- Asked for an "is not", a path ends in the second part.
pub goal_second : (n sign y : ℕ) → (sign ≡ 0 → ⊥) → n + y ≡ goal n (sign_at sign) y
goal_second n zero y h = absurd (h refl)
goal_second n (suc s) y h = refl

module _ (n sign : ℕ) (ws : List ℕ) (net : Net 0 n ws) (y : ℕ) (node : y < n) where
  abbrev after : ℕ → List ℕ
  after i = levels (arcs n (sign_at sign) ws) (n + n) (goal n (sign_at sign) y) i

  kind : Kind 0 n y
  kind = record { low = omega arith; high = omega arith }

  all : 0 + n ≡ n
  all = omega arith

  -- The places filled are those before the first level.
  pub levels_begin : {end m : ℕ} {b : List ℕ} → end ≡ goal n (sign_at sign) y → m ≡ n + n → b ≡ set (replicate m never) end 0 → b ≡ after 0
  levels_begin e f h = h ∙ rw (e, f) (sym (levels_start (arcs n (sign_at sign) ws) (n + n) (goal n (sign_at sign) y)))

  -- Each level leads to the next.
  pub levels_next : (i : ℕ) {a b : List ℕ} → a ≡ after i → b ≡ level i (arcs n (sign_at sign) ws) a → b ≡ after (i + 1)
  levels_next i e h = h ∙ ap (level i (arcs n (sign_at sign) ws)) e ∙ sym (levels_go (arcs n (sign_at sign) ws) (n + n) (goal n (sign_at sign) y) i)

  -- A level that leaves the places as they are is the last.
  pub levels_stop : (i : ℕ) {a b : List ℕ} → i ≤ n + n → a ≡ after i → b ≡ level i (arcs n (sign_at sign) ws) a → b ≡ a → b ≡ distances n (sign_at sign) ws y
  levels_stop i {a} l e h q = q ∙ (rw all at (search_stops 0 n ws net y kind (sign_at sign) i a)) l e (sym h ∙ q)

  -- So is level 2N.
  pub levels_end : (i : ℕ) {a : List ℕ} → n + n ≤ i → i ≤ n + n → a ≡ after i → a ≡ distances n (sign_at sign) ws y
  levels_end i {a} g l e = (rw all at (search_ends 0 n ws net y kind (sign_at sign) i a)) g l e
