-- The distances of a net: each place of the scratch is right, and small enough for its 16 bits.
use Prim.Native.Nat.{ℕ, suc, ◌+◌, ◌≤◌, ◌<◌}
use mathlib.Core.Path.{◌≡◌, sym, ◌∙◌}
use mathlib.Core.List.{List, [], ◌∷◌, Memᴰ}
use mathlib.Core.Logic.{◌⊎◌, inr}
use native.Mathlib.Omega.{arith}
use native.Mathlib.Decide.{dec_lt}
use lib.ListN.{length, get_or, get_or-eq_default}
use Rattle.theory.specs.Words.{Sign, is, isnt}
use Rattle.theory.specs.Nets.{Kind, Links, Net}
use Rattle.theory.specs.Reasons.{Moves, Route, goal, never, Distance, reached, lost}
use Rattle.theory.specs.Searches.{Arc, arcs, levels, distances}
use Rattle.theory.proofs.Legal.{legal_links}
use Rattle.theory.proofs.reason.Levels.{Among}
use Rattle.theory.proofs.reason.Ending.{levels_length, levels_right, quiet_stays}
use Rattle.theory.proofs.reason.Moves.{arcs_moves, moves_arcs, moves_in}

-- A route over some moves is a route over all that contain them.
pub route_into : (E F : ℕ → ℕ → Type 0) → ((a b : ℕ) → E a b → F a b) → (t s : ℕ) (p : List ℕ) → Route E t s p → Route F t s p
route_into E F f t s [] r = r
route_into E F f t s (b ∷ p) r = (f s b r.0, route_into E F f t b p r.1)

-- Distances over the same moves are the same.
pub distance_into : (E F : ℕ → ℕ → Type 0) → ((a b : ℕ) → E a b → F a b) → ((a b : ℕ) → F a b → E a b) → (t s d : ℕ) → Distance E t s d → Distance F t s d
distance_into E F f g t s d (reached h p r e w) = reached h p (route_into E F f t s p r) e (λ q u. w q (route_into F E g t s q u))
distance_into E F f g t s d (lost e w) = lost e (λ q u. w q (route_into F E g t s q u))

-- A place has one right value.
pub distance_unique : (E : ℕ → ℕ → Type 0) (t s c d : ℕ) → Distance E t s c → Distance E t s d → c ≡ d
distance_unique E t s c d (reached h p r e f) (reached i q u v g) = omega (arith, f q u, g p r)
distance_unique E t s c d (reached h p r e f) (lost v g) = absurd (g p r)
distance_unique E t s c d (lost e f) (reached i q u v g) = absurd (f q u)
distance_unique E t s c d (lost e f) (lost v g) = e ∙ sym v

-- The end of a path to a node is a state.
pub goal_in : (n y : ℕ) (s : Sign) → y < n → goal n s y < n + n
goal_in n y is h = omega arith
goal_in n y isnt h = omega arith

-- There is a place for each state.
pub distances_length : (n : ℕ) (s : Sign) (ws : List ℕ) (y : ℕ) → length (distances n s ws y) ≡ n + n
unfolding distances
distances_length n s ws y = levels_length (arcs n s ws) (n + n) (goal n s y) (n + n)

module _ (o k : ℕ) (ws : List ℕ) (net : Net o k ws) where
  abbrev n : ℕ
  n = o + k

  -- Moves listed lead from states to states.
  pub arcs_in : (s : Sign) (e : Arc) → Memᴰ e (arcs n s ws) → (e.from < n + n) × (e.to < n + n)
  arcs_in s e m = moves_in o k (Links ws) (legal_links o k ws net.legal) (arcs_moves n s ws e.from e.to m)

  module _ (y : ℕ) (kind : Kind o k y) (s : Sign) where
    room : suc (suc (n + n)) < never
    room = omega (arith, net.few)

    -- Each place is right over the moves listed.
    pub distances_listed : (v : ℕ) → v < n + n → Distance (Among (arcs n s ws)) (goal n s y) v (get_or (distances n s ws y) v never)
    unfolding distances
    distances_listed v h = (levels_right (arcs n s ws) (n + n) (goal n s y) (goal_in n y s kind.high) (arcs_in s) room v h).0

    -- Each place is the fewest links from its state to the end, or says that there is no way.
    pub distances_right : (v : ℕ) → v < n + n → Distance (Moves n (Links ws) s) (goal n s y) v (get_or (distances n s ws y) v never)
    distances_right v h =
        distance_into (Among (arcs n s ws)) (Moves n (Links ws) s) (arcs_moves n s ws) (λ a b. moves_arcs n ws) (goal n s y) v _ (distances_listed v h)

    -- Each place is below 2N, or is `never`.
    pub distances_small : (v : ℕ) → (get_or (distances n s ws y) v never < n + n) ⊎ (get_or (distances n s ws y) v never ≡ never)
    unfolding distances
    distances_small v = pick (dec_lt v (n + n))
      where
        pick : Dec (v < n + n) → (get_or (distances n s ws y) v never < n + n) ⊎ (get_or (distances n s ws y) v never ≡ never)
        pick (yes h) = (levels_right (arcs n s ws) (n + n) (goal n s y) (goal_in n y s kind.high) (arcs_in s) room v h).1
        pick (no h) = inr (get_or-eq_default (distances n s ws y) never (omega (arith, distances_length n s ws y)))

    -- Once a level adds nothing the distances stand, so the search may stop.
    pub levels_stay : (i : ℕ) → i ≤ n + n → levels (arcs n s ws) (n + n) (goal n s y) (suc i) ≡ levels (arcs n s ws) (n + n) (goal n s y) i
        → distances n s ws y ≡ levels (arcs n s ws) (n + n) (goal n s y) i
    unfolding distances
    levels_stay i h q = quiet_stays (arcs n s ws) (n + n) (goal n s y) (goal_in n y s kind.high) (arcs_in s) i q (n + n) h (omega (arith, room))
