-- The shortest path without repeats is the best route; there is one at most, and no path with repeats is shorter.
use Prim.Native.Nat.{ℕ, ◌+◌, ◌≤◌, ◌<◌}
use mathlib.Core.Path.{◌≡◌, sym, ◌∙◌, ap}
use mathlib.Core.List.{List}
use native.Mathlib.Omega.{arith}
use lib.ListN.{length}
use Rattle.theory.specs.Words.{Sign}
use Rattle.theory.specs.Nets.{Statements, Kind}
use Rattle.theory.specs.Paths.{Shows}
use Rattle.theory.specs.Reasons.{Strict, coded, Before, Shortest, Moves, Route, goal}
use Rattle.theory.specs.Searches.{reason_list}
use Rattle.theory.proofs.Legal.{Legal}
use Rattle.theory.proofs.reason.Best.{Best, best_unique}
use Rattle.theory.proofs.reason.Routes.{coded_length, strict_route, route_strict}
use Rattle.theory.proofs.reason.Repeats.{shows_strict}
use Rattle.theory.proofs.reason.Writing.{strict_below, list_written, written_injective}

-- No path that shows the statement has fewer nodes, repeats or not.
pub shortest_fewest : (o k : ℕ) (L : Statements) (x y : ℕ) (s : Sign) (xs ys us vs : List ℕ) → Shortest o k L x y s xs ys → Shows o k L x us vs y s
    → length xs + length ys ≤ length us + length vs
shortest_fewest o k L x y s xs ys us vs h p = let (ps, qs, r, l) = shows_strict o k L x y s us vs p in omega (arith, h.fewest ps qs r)

module _ (o k : ℕ) (L : Statements) (legal : Legal o k L) (x : ℕ) (node : x < o + k) (y : ℕ) (kind : Kind o k y) (s : Sign) where
  abbrev n : ℕ
  n = o + k

  -- The best route is the shortest path.
  pub best_shortest : (q : List ℕ) → Best (Moves n L s) (goal n s y) x q → (xs : List ℕ) × (ys : List ℕ) × (q ≡ coded n xs ys) × Shortest o k L x y s xs ys
  best_shortest q b =
      let (xs, ys, e, p) = route_strict o k L legal x y s node kind.high q b.route in
      (xs, ys, e, record { kind = kind; path = p; fewest = fewest xs ys e; first = first xs ys e })
    where
      fewest : (xs ys : List ℕ) → q ≡ coded n xs ys → (us vs : List ℕ) → Strict L x us vs y s → length xs + length ys ≤ length us + length vs
      fewest xs ys e us vs r = omega (arith, b.fewest (coded n us vs) (strict_route n L x y s us vs r), ap (length {A = ℕ}) e, coded_length n xs ys, coded_length n us vs)

      first : (xs ys : List ℕ) → q ≡ coded n xs ys → (us vs : List ℕ) → Strict L x us vs y s → length us + length vs ≡ length xs + length ys → Before (coded n xs ys) (coded n us vs)
      first xs ys e us vs r l =
          rw e at (b.first (coded n us vs) (strict_route n L x y s us vs r) (omega (arith, ap (length {A = ℕ}) e, coded_length n xs ys, coded_length n us vs)))

  -- The shortest path is the best route.
  pub shortest_best : (xs ys : List ℕ) → Shortest o k L x y s xs ys → Best (Moves n L s) (goal n s y) x (coded n xs ys)
  shortest_best xs ys h = record { route = strict_route n L x y s xs ys h.path; fewest = fewest; first = first }
    where
      fewest : (q : List ℕ) → Route (Moves n L s) (goal n s y) x q → length (coded n xs ys) ≤ length q
      fewest q r =
          let (us, vs, e, p) = route_strict o k L legal x y s node kind.high q r in
          omega (arith, h.fewest us vs p, ap (length {A = ℕ}) e, coded_length n xs ys, coded_length n us vs)

      first : (q : List ℕ) → Route (Moves n L s) (goal n s y) x q → length (coded n xs ys) ≡ length q → Before (coded n xs ys) q
      first q r l =
          let (us, vs, e, p) = route_strict o k L legal x y s node kind.high q r in
          rw e (h.first us vs p (omega (arith, ap (length {A = ℕ}) e, coded_length n xs ys, coded_length n us vs)))

  -- There is no second shortest path.
  pub shortest_unique : (xs ys us vs : List ℕ) → Shortest o k L x y s xs ys → Shortest o k L x y s us vs → (xs ≡ us) × (ys ≡ vs)
  shortest_unique xs ys us vs g h =
      let e : coded n xs ys ≡ coded n us vs = best_unique (Moves n L s) (goal n s y) x _ _ (shortest_best xs ys g) (shortest_best us vs h) in
      written_injective x xs ys us vs
      (sym (list_written n x xs ys (strict_below o k L legal x y s xs ys g.path)) ∙ ap (reason_list n x) e ∙ list_written n x us vs (strict_below o k L legal x y s us vs h.path))
