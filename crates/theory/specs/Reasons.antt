-- The shortest reason: a path without repeats, its length, the tie rule, and the distances that lead along it.
-- States: v stands for node v in the first part, n + v for node v in the second.
use Rattle.std.specs.Prelude.{ℕ, suc, ◌+◌, ◌≤◌, ◌<◌, ◌≡◌, List, [], ◌∷◌, ◌++◌, map, ◌⊎◌, length}
use Rattle.theory.specs.Words.{Sign, is, isnt}
use Rattle.theory.specs.Nets.{Statements, Kind}
use Rattle.theory.specs.Paths.{last_of, Crossing}

-- First and second parts in which each step is a link.
abbrev pub FirstLinks : Statements → ℕ → List ℕ → Type 0
FirstLinks L x [] = Unit {0}
FirstLinks L x (y ∷ ys) = L x y is × FirstLinks L y ys

abbrev pub SecondLinks : Statements → ℕ → List ℕ → Type 0
SecondLinks L y [] = Unit {0}
SecondLinks L y (z ∷ zs) = L z y is × SecondLinks L z zs

-- A path from x to y in which each step of either part is a link, so none only repeats a kind. It has as many links as xs and ys have nodes.
abbrev pub Strict : Statements → ℕ → List ℕ → List ℕ → ℕ → Sign → Type 0
Strict L x xs [] y is = FirstLinks L x xs × (last_of x xs ≡ y)
Strict L x xs [] y isnt = ⊥
Strict L x xs (z ∷ zs) y is = ⊥
Strict L x xs (z ∷ zs) y isnt = FirstLinks L x xs × Crossing L (last_of x xs) z × SecondLinks L z zs × (last_of z zs ≡ y)

-- The states that a path comes through after its start.
abbrev pub coded : ℕ → List ℕ → List ℕ → List ℕ
coded n xs ys = xs ++ map (λ v. n + v) ys

-- p stands before q, or is q: the first place at which they differ decides, and there the smaller state.
-- On states that is the tie rule: staying in the first part beats crossing over, then the smaller node wins.
abbrev pub Before : List ℕ → List ℕ → Type 0
Before [] q = Unit {0}
Before (a ∷ p) [] = ⊥
Before (a ∷ p) (b ∷ q) = (a < b) ⊎ ((a ≡ b) × Before p q)

-- The reason: a path to a kind, without repeats, that has fewest links, and is the first of those.
pub record Shortest (o k : ℕ) (L : Statements) (x y : ℕ) (s : Sign) (xs ys : List ℕ) : Type 0 where
  pub kind : Kind o k y
  pub path : Strict L x xs ys y s
  pub fewest : (us vs : List ℕ) → Strict L x us vs y s → length xs + length ys ≤ length us + length vs
  pub first : (us vs : List ℕ) → Strict L x us vs y s → length us + length vs ≡ length xs + length ys → Before (coded (o + k) xs ys) (coded (o + k) us vs)

-- A reason as it is written: size of the first part, size of the second, the nodes.
abbrev pub written : ℕ → List ℕ → List ℕ → List ℕ
written x xs ys = suc (length xs) ∷ length ys ∷ x ∷ (xs ++ ys)

-- One link's move between states: along a → link in the first part, over a ↛ link, back along a → link in the second.
pub data Moves (n : ℕ) (L : Statements) : Sign → ℕ → ℕ → Type 0 where
  up : {s : Sign} {u v : ℕ} → L u v is → Moves n L s u v
  across : {u v : ℕ} (b : ℕ) → v ≡ n + b → Crossing L u b → Moves n L isnt u v
  down : {u v : ℕ} (a b : ℕ) → u ≡ n + a → v ≡ n + b → L b a is → Moves n L isnt u v

-- The moves lead from s through these states to t.
abbrev pub Route : (ℕ → ℕ → Type 0) → ℕ → ℕ → List ℕ → Type 0
Route E t s [] = s ≡ t
Route E t s (b ∷ p) = E s b × Route E t b p

-- The state at the end of a path to y.
abbrev pub goal : ℕ → Sign → ℕ → ℕ
goal n is y = y
goal n isnt y = n + y

-- What a place of the scratch holds where there is no way.
abbrev pub never : ℕ
never = 65535

-- What the place of the state s holds: the fewest links from there to the end t, or that there is no way.
pub data Distance (E : ℕ → ℕ → Type 0) (t s d : ℕ) : Type 0 where
  reached : d < never → (p : List ℕ) → Route E t s p → length p ≡ d → ((q : List ℕ) → Route E t s q → d ≤ length q) → Distance E t s d
  lost : d ≡ never → ((q : List ℕ) → Route E t s q → ⊥) → Distance E t s d
