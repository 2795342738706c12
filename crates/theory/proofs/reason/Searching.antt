-- The search as its loops run it: word by word through a level or for a next state, level by level, and state by state down to the end.
use Prim.Native.Nat.{ℕ, zero, suc, ◌+◌, ◌≤◌, ◌<◌}
use mathlib.Core.Path.{◌≡◌, refl, sym, ◌∙◌, ap}
use mathlib.Core.List.{List, [], ◌∷◌}
use native.Mathlib.Omega.{arith}
use native.Mathlib.Numerals.{add-one}
use lib.ListN.{length, get_or, set, replicate, drop, drop_of_length-le}
use lib.Seq.{drop-cons}
use Rattle.theory.specs.Words.{Sign, is, isnt, tail_of, head_of, parity}
use Rattle.theory.specs.Nets.{Kind, Net}
use Rattle.theory.specs.Reasons.{goal, never}
use Rattle.theory.specs.Searches.{Arc, arc, arcs_of, arcs, level, levels, distances, next, descend}
use Rattle.theory.proofs.reason.Best.{next_nearer}
use Rattle.theory.proofs.reason.Distances.{arcs_in, distances_listed, levels_stay}

level_word_lem : (n : ℕ) (s : Sign) (i t h p : ℕ) (l : List Arc) (d : List ℕ) → level i (arcs_of n s t h p l) d ≡ level i l (level i (arcs_of n s t h p []) d)
unfolding level
level_word_lem n is i t h zero l d = refl
level_word_lem n is i t h (suc p) l d = refl
level_word_lem n isnt i t h zero l d = refl
level_word_lem n isnt i t h (suc p) l d = refl

next_word : (n : ℕ) (s : Sign) (t h p : ℕ) (l : List Arc) (d : List ℕ) (u i z : ℕ) → next (arcs_of n s t h p l) d u i z ≡ next l d u i (next (arcs_of n s t h p []) d u i z)
unfolding next
next_word n is t h zero l d u i z = refl
next_word n is t h (suc p) l d u i z = refl
next_word n isnt t h zero l d u i z = refl
next_word n isnt t h (suc p) l d u i z = refl

module _ (n : ℕ) (s : Sign) where
  -- The moves of the word at place j.
  abbrev pub arcs_at : List ℕ → ℕ → List Arc
  arcs_at ws j = arcs_of n s (tail_of (get_or ws j 0)) (head_of (get_or ws j 0)) (parity (get_or ws j 0)) []

  arcs_go : (ws : List ℕ) (j : ℕ) → j < length ws
      → arcs n s (drop j ws) ≡ arcs_of n s (tail_of (get_or ws j 0)) (head_of (get_or ws j 0)) (parity (get_or ws j 0)) (arcs n s (drop (suc j) ws))
  unfolding arcs
  arcs_go ws j h = rw (drop-cons ws j 0 h) refl

  arcs_end : (ws : List ℕ) (j : ℕ) → length ws ≤ j → arcs n s (drop j ws) ≡ []
  unfolding arcs
  arcs_end ws j h = rw (drop_of_length-le ws h) refl

  -- A level from word j on is the moves of word j, then the level from word j + 1 on.
  pub level_go : (ws : List ℕ) (i j : ℕ) (d : List ℕ) → j < length ws → level i (arcs n s (drop j ws)) d ≡ level i (arcs n s (drop (j + 1) ws)) (level i (arcs_at ws j) d)
  level_go ws i j d h = rw (add-one j, arcs_go ws j h) (level_word_lem n s i _ _ _ (arcs n s (drop (suc j) ws)) d)

  pub level_end : (ws : List ℕ) (i j : ℕ) (d : List ℕ) → length ws ≤ j → level i (arcs n s (drop j ws)) d ≡ d
  unfolding level
  level_end ws i j d h = rw (arcs_end ws j h) refl

  -- The next state over the words from j on is found over word j, then over those from j + 1 on.
  pub next_go : (ws : List ℕ) (j : ℕ) (d : List ℕ) (u i z : ℕ) → j < length ws → next (arcs n s (drop j ws)) d u i z ≡ next (arcs n s (drop (j + 1) ws)) d u i (next (arcs_at ws j) d u i z)
  next_go ws j d u i z h = rw (add-one j, arcs_go ws j h) (next_word n s _ _ _ (arcs n s (drop (suc j) ws)) d u i z)

  pub next_end : (ws : List ℕ) (j : ℕ) (d : List ℕ) (u i z : ℕ) → length ws ≤ j → next (arcs n s (drop j ws)) d u i z ≡ z
  unfolding next
  next_end ws j d u i z h = rw (arcs_end ws j h) refl

-- Before the first level the end has the distance 0 and no other state has one.
pub levels_start : (l : List Arc) (m t : ℕ) → levels l m t 0 ≡ set (replicate m never) t 0
unfolding levels
levels_start l m t = refl

-- Level i leads from the places after i levels to those after i + 1.
pub levels_go : (l : List Arc) (m t i : ℕ) → levels l m t (i + 1) ≡ level i l (levels l m t i)
unfolding levels
levels_go l m t i = rw (add-one i) refl

-- The descent at distance i + 1 takes the next state and goes on from there.
pub descend_go : (l : List Arc) (d : List ℕ) (m u i : ℕ) → descend l d m u (i + 1) ≡ next l d u i m ∷ descend l d m (next l d u i m) i
unfolding descend
descend_go l d m u i = rw (add-one i) refl

pub descend_end : (l : List Arc) (d : List ℕ) (m u : ℕ) → descend l d m u 0 ≡ []
unfolding descend
descend_end l d m u = refl

module _ (o k : ℕ) (ws : List ℕ) (net : Net o k ws) (y : ℕ) (kind : Kind o k y) (s : Sign) where
  abbrev n : ℕ
  n = o + k

  -- A level that leaves the places as they are ends the search.
  pub search_stops : (i : ℕ) (d : List ℕ) → i ≤ n + n → d ≡ levels (arcs n s ws) (n + n) (goal n s y) i → level i (arcs n s ws) d ≡ d → d ≡ distances n s ws y
  unfolding levels
  search_stops i d h e q = e ∙ sym (levels_stay o k ws net y kind s i h (ap (level i (arcs n s ws)) (sym e) ∙ q ∙ e))

  -- So does level 2N.
  pub search_ends : (i : ℕ) (d : List ℕ) → n + n ≤ i → i ≤ n + n → d ≡ levels (arcs n s ws) (n + n) (goal n s y) i → d ≡ distances n s ws y
  unfolding distances
  search_ends i d g h e = let f : i ≡ n + n = omega arith in e ∙ ap (levels (arcs n s ws) (n + n) (goal n s y)) f

  -- From a state that has a distance above 0 the next state is one link nearer.
  pub next_state : (u i : ℕ) → u < n + n → get_or (distances n s ws y) u never ≡ suc i → suc i < never
      → (next (arcs n s ws) (distances n s ws y) u i (n + n) < n + n) × (get_or (distances n s ws y) (next (arcs n s ws) (distances n s ws y) u i (n + n)) never ≡ i)
  next_state u i h e v =
      let (a, b, c) = next_nearer (arcs n s ws) (goal n s y) (n + n) (distances n s ws y) (λ a b m. (arcs_in o k ws net s (arc a b) m).1) (distances_listed o k ws net y kind s) u i h e v in
      (a, c)
