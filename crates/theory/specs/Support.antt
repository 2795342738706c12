-- The supported set: the smallest that contains the links L and satisfies (3.1) to (3.5).
use Rattle.std.specs.Prelude.{ℕ, ◌<◌}
use Rattle.theory.specs.Words.{Sign, is, isnt}
use Rattle.theory.specs.Nets.{Statements, Kind}

-- p, q and r are kinds, a is an object, x is either.
pub data Supported (o k : ℕ) (L : Statements) : ℕ → ℕ → Sign → Type 0 where
  linked : {x y : ℕ} {s : Sign} → L x y s → Supported o k L x y s
  -- (3.1) p → p
  r1 : {p : ℕ} → Kind o k p → Supported o k L p p is
  -- (3.2) x → q and q → r give x → r
  r2 : {x q r : ℕ} → Kind o k q → Kind o k r → Supported o k L x q is → Supported o k L q r is → Supported o k L x r is
  -- (3.3) p ↛ q gives q ↛ p
  r3 : {p q : ℕ} → Kind o k p → Kind o k q → Supported o k L p q isnt → Supported o k L q p isnt
  -- (3.4) x → q and q ↛ r give x ↛ r
  r4 : {x q r : ℕ} → Kind o k q → Kind o k r → Supported o k L x q is → Supported o k L q r isnt → Supported o k L x r isnt
  -- (3.5) p → q and a ↛ q give a ↛ p
  r5 : {p q a : ℕ} → Kind o k p → Kind o k q → a < o → Supported o k L p q is → Supported o k L a q isnt → Supported o k L a p isnt

-- P contains the links L and is closed under the five rules.
pub record Closed (o k : ℕ) (L P : Statements) : Type 0 where
  pub links : {x y : ℕ} {s : Sign} → L x y s → P x y s
  pub r1 : {p : ℕ} → Kind o k p → P p p is
  pub r2 : {x q r : ℕ} → Kind o k q → Kind o k r → P x q is → P q r is → P x r is
  pub r3 : {p q : ℕ} → Kind o k p → Kind o k q → P p q isnt → P q p isnt
  pub r4 : {x q r : ℕ} → Kind o k q → Kind o k r → P x q is → P q r isnt → P x r isnt
  pub r5 : {p q a : ℕ} → Kind o k p → Kind o k q → a < o → P p q is → P a q isnt → P a p isnt
