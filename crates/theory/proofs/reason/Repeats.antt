-- Repeats add nothing: a path that shows a statement has one without repeats beside it, which is no longer.
use Prim.Native.Nat.{ℕ, suc, ◌+◌, ◌≤◌}
use mathlib.Core.Path.{◌≡◌, refl, subst, sym, ◌∙◌}
use mathlib.Core.List.{List, [], ◌∷◌}
use mathlib.Core.Logic.{inl, inr}
use native.Mathlib.Omega.{arith}
use lib.ListN.{length}
use Rattle.theory.specs.Words.{Sign, is, isnt}
use Rattle.theory.specs.Nets.{Statements, Kind}
use Rattle.theory.specs.Paths.{Step, last_of, First, Second, Shows}
use Rattle.theory.specs.Reasons.{FirstLinks, SecondLinks, Strict}

module _ (o k : ℕ) (L : Statements) where
  links_first : (x : ℕ) (xs : List ℕ) → FirstLinks L x xs → First o k L x xs
  links_first x [] f = tt
  links_first x (y ∷ xs) f = (inl f.0, links_first y xs f.1)

  links_second : (y : ℕ) (zs : List ℕ) → SecondLinks L y zs → Second o k L y zs
  links_second y [] f = tt
  links_second y (z ∷ zs) f = (inl f.0, links_second z zs f.1)

  -- A path without repeats to a kind shows its statement.
  pub strict_shows : (x y : ℕ) (s : Sign) (xs ys : List ℕ) → Kind o k y → Strict L x xs ys y s → Shows o k L x xs ys y s
  strict_shows x y is xs [] h p = (links_first x xs p.0, p.1, h)
  strict_shows x y is xs (z ∷ zs) h p = absurd p
  strict_shows x y isnt xs [] h p = absurd p
  strict_shows x y isnt xs (z ∷ zs) h p = (links_first x xs p.0, p.1, links_second z zs p.2, p.3, h)

  -- links alone, from x to v, over at most j nodes: up in a first part, or down in a second
  abbrev Upwards : ℕ → ℕ → ℕ → Type 0
  Upwards x v j = (us : List ℕ) × FirstLinks L x us × (last_of x us ≡ v) × (length us ≤ j)

  abbrev Downwards : ℕ → ℕ → ℕ → Type 0
  Downwards y v j = (us : List ℕ) × SecondLinks L y us × (last_of y us ≡ v) × (length us ≤ j)

  up_step : (x y v j : ℕ) → Step o k L x y → Upwards y v j → Upwards x v (suc j)
  up_step x y v j (inl l) (us, f, e, h) = (y ∷ us, (l, f), e, omega arith)
  up_step x y v j (inr q) r = let (us, f, e, h) = subst (λ (u : ℕ). Upwards u v j) (sym q.0) r in (us, f, e, omega arith)

  down_step : (y z v j : ℕ) → Step o k L z y → Downwards z v j → Downwards y v (suc j)
  down_step y z v j (inl l) (us, f, e, h) = (z ∷ us, (l, f), e, omega arith)
  down_step y z v j (inr q) r = let (us, f, e, h) = subst (λ (u : ℕ). Downwards u v j) q.0 r in (us, f, e, omega arith)

  first_upwards : (x : ℕ) (xs : List ℕ) → First o k L x xs → Upwards x (last_of x xs) (length xs)
  first_upwards x [] f = ([], tt, refl, omega arith)
  first_upwards x (y ∷ xs) f = up_step x y (last_of y xs) (length xs) f.0 (first_upwards y xs f.1)

  second_downwards : (y : ℕ) (zs : List ℕ) → Second o k L y zs → Downwards y (last_of y zs) (length zs)
  second_downwards y [] f = ([], tt, refl, omega arith)
  second_downwards y (z ∷ zs) f = down_step y z (last_of z zs) (length zs) f.0 (second_downwards z zs f.1)

  -- A path without repeats of at most j links.
  abbrev pub StrictWithin : ℕ → ℕ → Sign → ℕ → Type 0
  StrictWithin x y s j = (us : List ℕ) × (vs : List ℕ) × Strict L x us vs y s × (length us + length vs ≤ j)

  -- Every path that shows a statement has a path without repeats beside it that is no longer.
  pub shows_strict : (x y : ℕ) (s : Sign) (xs ys : List ℕ) → Shows o k L x xs ys y s → StrictWithin x y s (length xs + length ys)
  shows_strict x y is xs [] p = let (us, f, e, h) = first_upwards x xs p.0 in (us, [], (f, e ∙ p.1), omega arith)
  shows_strict x y is xs (z ∷ zs) p = absurd p
  shows_strict x y isnt xs [] p = absurd p
  shows_strict x y isnt xs (z ∷ zs) p =
      let (us, f, e, h) = first_upwards x xs p.0 in
      let (vs, g, d, i) = second_downwards z zs p.2 in
      (us, z ∷ vs, (f, rw e p.1, g, d ∙ p.3), omega arith)
