-- A clash: a node, object or kind, with both answers at a kind ([3]); the smallest one; and nets without any.
use Rattle.std.specs.Prelude.{ℕ, ◌+◌, ◌≤◌, ◌<◌, List}
use Rattle.theory.specs.Words.{is, isnt}
use Rattle.theory.specs.Nets.{Kind, Links}
use Rattle.theory.specs.Support.{Supported}

-- The net supports both x → y and x ↛ y of the node x.
pub record ClashAt (o k : ℕ) (ws : List ℕ) (x y : ℕ) : Type 0 where
  pub node : x < o + k
  pub kind : Kind o k y
  pub is_yes : Supported o k (Links ws) x y is
  pub is_no : Supported o k (Links ws) x y isnt

-- The smallest node that clashes, with its smallest kind.
pub record SmallestClash (o k : ℕ) (ws : List ℕ) (x y : ℕ) : Type 0 where
  pub clash : ClashAt o k ws x y
  pub node : (u v : ℕ) → ClashAt o k ws u v → x ≤ u
  pub kind : (v : ℕ) → ClashAt o k ws x v → y ≤ v

-- No node clashes.
abbrev pub ClashFree : ℕ → ℕ → List ℕ → Type 0
ClashFree o k ws = (x y : ℕ) → ClashAt o k ws x y → ⊥
