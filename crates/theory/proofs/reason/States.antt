-- States: which part one stands in, and for which node.
use Prim.Native.Nat.{ℕ, suc, ◌-◌, ◌≤◌, ◌<◌}
use mathlib.Core.Path.{◌≡◌, refl}
use mathlib.Core.List.{List, ◌∷◌}
use native.Mathlib.Omega.{arith}
use borrow.Author.Tests.{lt-ltb, le-ltb}
use Rattle.theory.specs.Searches.{firsts, node_of}

-- A state of the first part is counted and stands for itself.
pub firsts_first : (n v : ℕ) (p : List ℕ) → v < n → firsts n (v ∷ p) ≡ suc (firsts n p)
unfolding firsts
firsts_first n v p h = rw (lt-ltb v n h) (omega arith)

pub node_first : (n v : ℕ) → v < n → node_of n v ≡ v
node_first n v h = rw (lt-ltb v n h) refl

-- A state of the second part is not counted and stands for the node that is n less.
pub firsts_second : (n v : ℕ) (p : List ℕ) → n ≤ v → firsts n (v ∷ p) ≡ firsts n p
unfolding firsts
firsts_second n v p h = rw (le-ltb v n h) (omega arith)

pub node_second : (n v : ℕ) → n ≤ v → node_of n v ≡ v - n
node_second n v h = rw (le-ltb v n h) refl
