-- Paths: a first part x, xs and a second part ys, which may be empty, and the statement that a path shows.
use Rattle.std.specs.Prelude.{ℕ, ◌≡◌, List, [], ◌∷◌, ◌⊎◌}
use Rattle.theory.specs.Words.{Sign, is, isnt}
use Rattle.theory.specs.Nets.{Statements, Kind}

-- A step from a to b: a link, or a kind repeated.
abbrev pub Step : ℕ → ℕ → Statements → ℕ → ℕ → Type 0
Step o k L a b = L a b is ⊎ ((a ≡ b) × Kind o k a)

-- The last of x and the nodes after it.
abbrev pub last_of : ℕ → List ℕ → ℕ
last_of x [] = x
last_of x (y ∷ ys) = last_of y ys

-- A first part: each step leads from a node to the next.
abbrev pub First : ℕ → ℕ → Statements → ℕ → List ℕ → Type 0
First o k L x [] = Unit {0}
First o k L x (y ∷ ys) = Step o k L x y × First o k L y ys

-- The crossing between u and v: a ↛ link either way round.
abbrev pub Crossing : Statements → ℕ → ℕ → Type 0
Crossing L u v = L u v isnt ⊎ L v u isnt

-- A second part: each step leads from a node back to the one before it.
abbrev pub Second : ℕ → ℕ → Statements → ℕ → List ℕ → Type 0
Second o k L y [] = Unit {0}
Second o k L y (z ∷ zs) = Step o k L z y × Second o k L z zs

-- The path x, xs; ys is one of the net and shows x → y, or with a second part x ↛ y. Its last node is a kind, so an object alone shows nothing.
abbrev pub Shows : ℕ → ℕ → Statements → ℕ → List ℕ → List ℕ → ℕ → Sign → Type 0
Shows o k L x xs [] y is = First o k L x xs × (last_of x xs ≡ y) × Kind o k y
Shows o k L x xs [] y isnt = ⊥
Shows o k L x xs (z ∷ zs) y is = ⊥
Shows o k L x xs (z ∷ zs) y isnt = First o k L x xs × Crossing L (last_of x xs) z × Second o k L z zs × (last_of z zs ≡ y) × Kind o k y
