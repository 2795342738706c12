-- Lemma 1, with the object cases right: a statement is supported exactly if a path shows it.
use Prim.Native.Nat.{ℕ}
use mathlib.Core.Path.{◌≡◌, refl, subst, sym}
use mathlib.Core.List.{List, [], ◌∷◌, ◌++◌}
use mathlib.Core.Logic.{inl, inr, ◌↔◌}
use Rattle.theory.specs.Words.{Sign, is, isnt}
use Rattle.theory.specs.Nets.{Statements}
use Rattle.theory.specs.Support.{Supported}
use Rattle.theory.specs.Paths.{Step, last_of, First, Second, Shows}
use Rattle.theory.proofs.Legal.{Legal}
use Rattle.theory.proofs.support.Reach.{Up, here, step, Reached, trans, supported_is_reached}

module _ (o k : ℕ) (L : Statements) where
  one_up : (a b : ℕ) → Step o k L a b → Up L b a
  one_up a b (inl l) = step l (here refl)
  one_up a b (inr e) = here e.0

  first_up : (x : ℕ) (xs : List ℕ) → First o k L x xs → Up L (last_of x xs) x
  first_up x [] f = here refl
  first_up x (y ∷ ys) f = trans (one_up x y f.0) (first_up y ys f.1)

  second_up : (y : ℕ) (zs : List ℕ) → Second o k L y zs → Up L y (last_of y zs)
  second_up y [] f = here refl
  second_up y (z ∷ zs) f = trans (second_up z zs f.1) (one_up z y f.0)

  up_first : {y x : ℕ} → Up L y x → (xs : List ℕ) × First o k L x xs × (last_of x xs ≡ y)
  up_first (here e) = ([], tt, e)
  up_first (step {z = z} l u) = let (xs, f, e) = up_first u in (z ∷ xs, (inl l, f), e)

  -- one more node at the end of a second part
  snoc : (y : ℕ) (zs : List ℕ) (z : ℕ) → Second o k L y zs → L z (last_of y zs) is → Second o k L y (zs ++ (z ∷ [])) × (last_of y (zs ++ (z ∷ [])) ≡ z)
  snoc y [] z f l = ((inl l, tt), refl)
  snoc y (w ∷ zs) z f l = let r = snoc w zs z f.1 l in ((f.0, r.0), r.1)

  up_second : {y x : ℕ} → Up L y x → (zs : List ℕ) × Second o k L y zs × (last_of y zs ≡ x)
  up_second (here e) = ([], tt, sym e)
  up_second {y} (step {x = x} {z = z} l u) =
      let (zs, f, e) = up_second u in
      let r = snoc y zs x f (rw e l) in (zs ++ (x ∷ []), r.0, r.1)

  -- Some path shows the statement.
  abbrev pub Way : ℕ → ℕ → Sign → Type 0
  Way x y s = (xs : List ℕ) × (ys : List ℕ) × Shows o k L x xs ys y s

  shows_reached : (x y : ℕ) (s : Sign) (xs ys : List ℕ) → Shows o k L x xs ys y s → Reached o k L x y s
  shows_reached x y is xs [] w = (subst (λ (v : ℕ). Up L v x) w.1 (first_up x xs w.0), w.2)
  shows_reached x y is xs (z ∷ zs) w = absurd w
  shows_reached x y isnt xs [] w = absurd w
  shows_reached x y isnt xs (z ∷ zs) w =
      (record { left = last_of x xs; right = z; first = first_up x xs w.0; cross = w.1; second = subst (λ (v : ℕ). Up L z v) w.3 (second_up z zs w.2) }, w.4)

  reached_way : (x y : ℕ) (s : Sign) → Reached o k L x y s → Way x y s
  reached_way x y is p = let (xs, f, e) = up_first p.0 in (xs, [], (f, e, p.1))
  reached_way x y isnt p =
      let (xs, f, e) = up_first p.0.first in
      let (zs, g, d) = up_second p.0.second in
      (xs, p.0.right ∷ zs, (f, rw e p.0.cross, g, d, p.1))

  pub lemma1 : Legal o k L → (x y : ℕ) (s : Sign) → Supported o k L x y s ↔ Way x y s
  lemma1 h x y s = ((λ p. reached_way x y s ((supported_is_reached o k L h x y s).0 p)), λ w. (supported_is_reached o k L h x y s).1 (shows_reached x y s w.0 w.1 w.2))
