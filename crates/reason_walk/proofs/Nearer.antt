-- The better of two states by one move, and by the moves of the words one after another, and what a state stands for, in the terms of the code.
use Prim.Native.Nat.{ℕ, ◌+◌, ◌-◌, ◌≤◌, ◌<◌}
use mathlib.Core.Path.{◌≡◌, refl, sym, ap, ◌∙◌}
use mathlib.Core.Bool.{Bool, true, false, cond}
use mathlib.Core.List.{List, [], ◌∷◌}
use native.Mathlib.Omega.{arith}
use borrow.Author.Tests.{eq-eqb, ne_eqb, lt-ltb, le-ltb}
use lib.Dec.{eqb, ltb}
use lib.ListN.{length, get_or, drop}
use Rattle.theory.specs.Reasons.{never}
use Rattle.theory.specs.Words.{sign_at}
use Rattle.theory.specs.Searches.{Arc, arc, arcs, next, node_of}
use Rattle.theory.specs.Origins.{chosen}
use Rattle.theory.proofs.origins.Folds.{chosen_next_go}
use Rattle.reason_search.proofs.WordMoves.{word_moves}
use Rattle.reason_search.proofs.Opening.{at_place}
use Rattle.reason_walk.specs.Walk.{first_part}

module _ (a b s i z : ℕ) (d : List ℕ) where
  -- A move that comes from elsewhere leads nowhere from here.
  pub from_elsewhere : (a ≡ s → ⊥) → z ≡ next (arc a b ∷ []) d s i z
  unfolding next
  from_elsewhere h = rw (ne_eqb a s h)

  module _ (here : a ≡ s) (to : b < length d) where
    -- One to another distance is not on the way.
    pub not_nearer : (get_or d b 0 ≡ i → ⊥) → z ≡ next (arc a b ∷ []) d s i z
    unfolding next
    not_nearer h = rw (eq-eqb a s here, ne_eqb (get_or d b never) i (λ (e : get_or d b never ≡ i). h (at_place d b 0 never to ∙ e)))

    module _ (at : get_or d b 0 ≡ i) where
      near : eqb (get_or d b never) i ≡ true
      near = eq-eqb (get_or d b never) i (at_place d b never 0 to ∙ at)

      -- Of two that are, the smaller is taken.
      pub smaller : b < z → b ≡ next (arc a b ∷ []) d s i z
      unfolding next
      smaller h = rw (eq-eqb a s here, near, lt-ltb b z h)

      pub not_smaller : z ≤ b → z ≡ next (arc a b ∷ []) d s i z
      unfolding next
      not_smaller h = rw (eq-eqb a s here, near, le-ltb b z h)

-- The search for a next state goes along moves one after the other.
module _ (d : List ℕ) (u i : ℕ) where
  pub next_none : (z : ℕ) → next [] d u i z ≡ z
  unfolding next
  next_none z = refl

  pub next_two : (e f : Arc) (z : ℕ) → next (e ∷ f ∷ []) d u i z ≡ next (f ∷ []) d u i (next (e ∷ []) d u i z)
  unfolding next
  next_two e f z = refl

-- It has come to word j of the chosen words, and made of the best so far what the word does to it.
pub next_more : (set n s : ℕ) (ws : List ℕ) (j : ℕ) (d : List ℕ) (u i z : ℕ) {c b : ℕ} → j < length ws → c ≡ next (arcs n (sign_at s) (chosen set (drop j ws))) d u i z
    → b ≡ next (arcs n (sign_at s) (chosen set (get_or ws j 0 ∷ []))) d u i z
    → c ≡ next (arcs n (sign_at s) (chosen set (drop (j + 1) ws))) d u i b
next_more set n s ws j d u i z at rest e =
    rest
    ∙ chosen_next_go set n (sign_at s) d u i ws j z at
    ∙ ap (next (arcs n (sign_at s) (chosen set (drop (j + 1) ws))) d u i) (sym (e ∙ word_moves (λ (l : List Arc). next l d u i) (next_none d u i) (next_two d u i) set n s (get_or ws j 0) z))

-- A state of the first part is its node, one of the second its node and N more.
module _ (n v : ℕ) where
  pub node_of_first : v < n → v ≡ node_of n v
  node_of_first h = rw (lt-ltb v n h)

  pub node_of_second : n ≤ v → v - n ≡ node_of n v
  node_of_second h = rw (le-ltb v n h)

  pub part_of_first : v < n → 1 ≡ first_part n v
  part_of_first h = rw (lt-ltb v n h)

  pub part_of_second : n ≤ v → 0 ≡ first_part n v
  part_of_second h = rw (le-ltb v n h)

  pub part_small : first_part n v ≤ 1
  part_small = small (ltb v n)
    where
      small : (t : Bool) → cond {A = ℕ} t 1 0 ≤ 1
      small true = omega arith
      small false = omega arith
