-- Routes over states are the paths without repeats.
use Prim.Native.Nat.{ℕ, ◌+◌, ◌<◌}
use mathlib.Core.Path.{◌≡◌, refl, ◌∙◌, ap}
use mathlib.Core.List.{List, [], ◌∷◌, ◌++◌, map}
use native.Mathlib.Omega.{arith}
use lib.ListN.{length, length-append, length-map}
use Rattle.theory.specs.Words.{Sign, is, isnt}
use Rattle.theory.specs.Nets.{Statements}
use Rattle.theory.specs.Paths.{last_of}
use Rattle.theory.specs.Reasons.{FirstLinks, SecondLinks, Strict, coded, Moves, up, across, down, Route, goal}
use Rattle.theory.proofs.Legal.{Legal}
use Rattle.theory.proofs.reason.Moves.{crossing_in}

module _ (n : ℕ) (L : Statements) where
  second_route : (y z : ℕ) (zs : List ℕ) → SecondLinks L z zs → last_of z zs ≡ y → Route (Moves n L isnt) (n + y) (n + z) (map (λ v. n + v) zs)
  second_route y z [] f e = ap (λ (v : ℕ). n + v) e
  second_route y z (w ∷ zs) f e = (down z w refl refl f.0, second_route y w zs f.1 e)

  first_route : (s : Sign) (t x : ℕ) (xs rest : List ℕ) → FirstLinks L x xs → Route (Moves n L s) t (last_of x xs) rest → Route (Moves n L s) t x (xs ++ rest)
  first_route s t x [] rest f r = r
  first_route s t x (y ∷ xs) rest f r = (up f.0, first_route s t y xs rest f.1 r)

  -- A path without repeats is a route.
  pub strict_route : (x y : ℕ) (s : Sign) (xs ys : List ℕ) → Strict L x xs ys y s → Route (Moves n L s) (goal n s y) x (coded n xs ys)
  strict_route x y is xs [] p = first_route is y x xs [] p.0 p.1
  strict_route x y is xs (z ∷ zs) p = absurd p
  strict_route x y isnt xs [] p = absurd p
  strict_route x y isnt xs (z ∷ zs) p = first_route isnt (n + y) x xs ((n + z) ∷ map (λ v. n + v) zs) p.0 (across z refl p.1, second_route y z zs p.2 p.3)

-- A path and its states have one length.
pub coded_length : (n : ℕ) (xs ys : List ℕ) → length (coded n xs ys) ≡ length xs + length ys
coded_length n xs ys = length-append xs (map (λ v. n + v) ys) ∙ ap (λ (j : ℕ). length xs + j) (length-map ys (λ (v : ℕ). n + v))

module _ (o k : ℕ) (L : Statements) (legal : Legal o k L) where
  abbrev n : ℕ
  n = o + k

  -- What a route is read as: a path without repeats.
  abbrev pub Back : ℕ → ℕ → Sign → List ℕ → Type 0
  Back x y s q = (xs : List ℕ) × (ys : List ℕ) × (q ≡ coded n xs ys) × Strict L x xs ys y s

  abbrev Tail : ℕ → ℕ → List ℕ → Type 0
  Tail y z q = (zs : List ℕ) × (q ≡ map (λ v. n + v) zs) × SecondLinks L z zs × (last_of z zs ≡ y)

  -- from a state of the second part a move leads to one of the second part
  low_move : {u v z : ℕ} {s : Sign} → u ≡ n + z → Moves n L s u v → (b : ℕ) × (v ≡ n + b) × L b z is
  low_move {u} {v} e (up l) = absurd (omega (arith, legal.tail u v is l))
  low_move {u} {v} e (across b q c) = absurd (omega (arith, (crossing_in o k L legal u b c).0))
  low_move {u} {v} {z} e (down a b p q l) = let f : a ≡ z = omega arith in (b, q, rw f at l)

  route_second : (y z u : ℕ) → u ≡ n + z → (q : List ℕ) → Route (Moves n L isnt) (n + y) u q → Tail y z q
  route_second y z u e [] r = ([], refl, tt, omega arith)
  route_second y z u e (v ∷ q) r =
      let (b, f, l) = low_move e r.0 in
      let (zs, g, h, i) = route_second y b v f q r.1 in
      (b ∷ zs, cc, (l, h), i)

  longer : (x y v : ℕ) (s : Sign) (q xs ys : List ℕ) → L x v is → q ≡ coded n xs ys → Strict L v xs ys y s → Back x y s (v ∷ q)
  longer x y v is q xs [] l e p = (v ∷ xs, [], ap (◌∷◌ v) e, ((l, p.0), p.1))
  longer x y v is q xs (z ∷ zs) l e p = absurd p
  longer x y v isnt q xs [] l e p = absurd p
  longer x y v isnt q xs (z ∷ zs) l e p = (v ∷ xs, z ∷ zs, ap (◌∷◌ v) e, ((l, p.0), p.1, p.2, p.3))

  at_goal : (x y : ℕ) (s : Sign) → x < n → y < n → x ≡ goal n s y → Back x y s []
  at_goal x y is h i e = ([], [], refl, (tt, e))
  at_goal x y isnt h i e = absurd (omega arith)

  -- A route is a path without repeats.
  pub route_strict : (x y : ℕ) (s : Sign) → x < n → y < n → (q : List ℕ) → Route (Moves n L s) (goal n s y) x q → Back x y s q
  route_strict x y s h i [] r = at_goal x y s h i r
  route_strict x y s h i (v ∷ q) r = go s r.0 r.1 (λ l. route_strict v y s (legal.head x v is l).high i q r.1)
    where
      go : (s : Sign) → Moves n L s x v → Route (Moves n L s) (goal n s y) v q → (L x v is → Back v y s q) → Back x y s (v ∷ q)
      go s (up l) w f = let (xs, ys, e, p) = f l in longer x y v s q xs ys l e p
      go s (across b e c) w f = let (zs, g, a, z) = route_second y b v e q w in ([], b ∷ zs, cc, (tt, c, a, z))
      go s (down a b p q' l) w f = absurd (omega arith)
