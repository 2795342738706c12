-- The reason of a net, computed: there is one exactly if the statement is supported, and it is the shortest path.
use Prim.Native.Nat.{ℕ, ◌+◌, ◌<◌}
use mathlib.Core.Path.{◌≡◌, ◌∙◌, ap}
use mathlib.Core.List.{List}
use mathlib.Core.Logic.{◌↔◌}
use native.Mathlib.Omega.{arith}
use lib.ListN.{length, get_or, length-map}
use Rattle.theory.specs.Words.{Sign}
use Rattle.theory.specs.Nets.{Kind, Links, Net}
use Rattle.theory.specs.Support.{Supported}
use Rattle.theory.specs.Reasons.{coded, written, Shortest, Moves, Route, goal, never, Distance, reached, lost}
use Rattle.theory.specs.Searches.{arc, arcs, distances, node_of, reason_states, reason_list}
use Rattle.theory.proofs.Legal.{Legal, legal_links}
use Rattle.theory.proofs.reason.Levels.{Among}
use Rattle.theory.proofs.reason.Best.{Best, descend_length, descend_best}
use Rattle.theory.proofs.reason.Moves.{arcs_moves, moves_arcs}
use Rattle.theory.proofs.reason.Routes.{strict_route, route_strict}
use Rattle.theory.proofs.reason.Repeats.{strict_shows, shows_strict}
use Rattle.theory.proofs.reason.Writing.{strict_below, list_written}
use Rattle.theory.proofs.reason.Distances.{route_into, arcs_in, distances_listed, distances_right}
use Rattle.theory.proofs.reason.Shortest.{best_shortest}
use Rattle.theory.proofs.support.Lemma1.{lemma1}

-- What the computed reason is: the shortest path x, xs; ys, as states and as it is written.
pub record Reason (o k : ℕ) (ws : List ℕ) (x y : ℕ) (s : Sign) : Type 0 where
  pub xs : List ℕ
  pub ys : List ℕ
  pub states : reason_states (o + k) s ws x y ≡ coded (o + k) xs ys
  pub list : reason_list (o + k) x (reason_states (o + k) s ws x y) ≡ written x xs ys
  pub shortest : Shortest o k (Links ws) x y s xs ys

-- A reason has as many links as x is away from the end.
pub states_length : (n : ℕ) (s : Sign) (ws : List ℕ) (x y : ℕ) → length (reason_states n s ws x y) ≡ get_or (distances n s ws y) x never
unfolding reason_states
states_length n s ws x y = descend_length (arcs n s ws) (distances n s ws y) (n + n) x (get_or (distances n s ws y) x never)

-- Its list has two places more for the sizes, and one for x.
pub reason_length : (n : ℕ) (s : Sign) (ws : List ℕ) (x y : ℕ) → length (reason_list n x (reason_states n s ws x y)) ≡ 3 + get_or (distances n s ws y) x never
unfolding reason_list
reason_length n s ws x y = omega (arith, length-map (reason_states n s ws x y) (node_of n), states_length n s ws x y)

-- The best route over the moves listed is the best over the moves.
pub best_into : (E F : ℕ → ℕ → Type 0) → ((a b : ℕ) → E a b → F a b) → ((a b : ℕ) → F a b → E a b) → (t s : ℕ) (p : List ℕ) → Best E t s p → Best F t s p
best_into E F f g t s p b = record {
  route = route_into E F f t s p b.route;
  fewest = λ q r. b.fewest q (route_into F E g t s q r);
  first = λ q r. b.first q (route_into F E g t s q r);
}

reached_route : (E : ℕ → ℕ → Type 0) (t s d : ℕ) → Distance E t s d → d < never → (p : List ℕ) × Route E t s p
reached_route E t s d (reached h p r e w) l = (p, r)
reached_route E t s d (lost e w) l = absurd (omega arith)

route_reached : (E : ℕ → ℕ → Type 0) (t s d : ℕ) → Distance E t s d → (p : List ℕ) → Route E t s p → d < never
route_reached E t s d (reached h p r e w) q u = h
route_reached E t s d (lost e w) q u = absurd (w q u)

module _ (o k : ℕ) (ws : List ℕ) (net : Net o k ws) (x : ℕ) (node : x < o + k) (y : ℕ) (kind : Kind o k y) (s : Sign) where
  abbrev n : ℕ
  n = o + k

  legal : Legal o k (Links ws)
  legal = legal_links o k ws net.legal

  at_x : Distance (Moves n (Links ws) s) (goal n s y) x (get_or (distances n s ws y) x never)
  at_x = distances_right o k ws net y kind s x (omega arith)

  -- There is a reason exactly if the statement is supported.
  pub reason_exactly : Supported o k (Links ws) x y s ↔ (get_or (distances n s ws y) x never < never)
  reason_exactly = (there, back)
    where
      there : Supported o k (Links ws) x y s → get_or (distances n s ws y) x never < never
      there p =
          let (xs, ys, w) = (lemma1 o k (Links ws) legal x y s).0 p in
          let (us, vs, r, l) = shows_strict o k (Links ws) x y s xs ys w in
          route_reached (Moves n (Links ws) s) (goal n s y) x _ at_x (coded n us vs) (strict_route n (Links ws) x y s us vs r)

      back : get_or (distances n s ws y) x never < never → Supported o k (Links ws) x y s
      back h =
          let (q, r) = reached_route (Moves n (Links ws) s) (goal n s y) x _ at_x h in
          let (xs, ys, e, p) = route_strict o k (Links ws) legal x y s node kind.high q r in
          (lemma1 o k (Links ws) legal x y s).1 (xs, ys, strict_shows o k (Links ws) x y s xs ys kind p)

  pub states_best : get_or (distances n s ws y) x never < never → Best (Moves n (Links ws) s) (goal n s y) x (reason_states n s ws x y)
  unfolding reason_states
  states_best h =
      best_into (Among (arcs n s ws)) (Moves n (Links ws) s) (arcs_moves n s ws) (λ a b. moves_arcs n ws) (goal n s y) x _
      (descend_best (arcs n s ws) (goal n s y) (n + n) (distances n s ws y) (λ a b m. (arcs_in o k ws net s (arc a b) m).1)
      (distances_listed o k ws net y kind s) x (omega arith) h)

  -- The computed reason is the shortest path.
  pub reason_shortest : get_or (distances n s ws y) x never < never → Reason o k ws x y s
  reason_shortest h =
      let (xs, ys, e, p) = best_shortest o k (Links ws) legal x node y kind s (reason_states n s ws x y) (states_best h) in
      record { xs = xs; ys = ys; states = e; list = ap (reason_list n x) e ∙ list_written n x xs ys (strict_below o k (Links ws) legal x y s xs ys p.path); shortest = p }
