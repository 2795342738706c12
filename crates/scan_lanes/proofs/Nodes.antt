-- Laws of the bytes of n nodes, each changed by a function of bytes.
use Prim.Native.Nat.{ℕ, zero, suc, ◌<◌, ◌≤◌, zero-le, suc-le-suc}
use mathlib.Core.Path.{◌≡◌, refl, ap}
use mathlib.Core.List.{List, [], ◌∷◌}
use native.Mathlib.Nat.{le_of_suc-le-suc, not-suc-le-zero, suc_inj}
use lib.ListN.{length, get_or, drop}
use native.Mathlib.Omega.{arith}
use Rattle.scan_lanes.specs.Codes.{on_nodes}

-- A node's byte is what the function makes of it.
pub nodes_at : (f : ℕ → ℕ) (n : ℕ) (m : List ℕ) (v : ℕ) → v < n → v < length m → get_or (on_nodes f n m) v 0 ≡ f (get_or m v 0)
unfolding on_nodes
nodes_at f zero m v l h = absurd (not-suc-le-zero l)
nodes_at f (suc n) [] v l h = absurd (not-suc-le-zero h)
nodes_at f (suc n) (b ∷ m) zero l h = refl
nodes_at f (suc n) (b ∷ m) (suc v) l h = nodes_at f n m v (le_of_suc-le-suc l) (le_of_suc-le-suc h)

-- There are as many bytes as before.
pub nodes_length : (f : ℕ → ℕ) (n : ℕ) (m : List ℕ) → length (on_nodes f n m) ≡ length m
unfolding on_nodes
nodes_length f zero m = refl
nodes_length f (suc n) [] = refl
nodes_length f (suc n) (b ∷ m) = ap suc (nodes_length f n m)

-- The bytes past the nodes are as they were.
pub nodes_past : (f : ℕ → ℕ) (n : ℕ) (m : List ℕ) → drop n (on_nodes f n m) ≡ drop n m
unfolding on_nodes
nodes_past f zero m = refl
nodes_past f (suc n) [] = refl
nodes_past f (suc n) (b ∷ m) = nodes_past f n m

-- Bytes of which two functions make the same are the same afterwards, if those past the nodes are.
pub nodes_same : (f g : ℕ → ℕ) (n : ℕ) (a b : List ℕ) → length a ≡ length b → ((v : ℕ) → v < n → f (get_or a v 0) ≡ g (get_or b v 0)) → drop n a ≡ drop n b
    → n ≤ length a → on_nodes f n a ≡ on_nodes g n b
unfolding on_nodes
nodes_same f g zero a b e h d r = d
nodes_same f g (suc n) [] b e h d r = absurd (not-suc-le-zero r)
nodes_same f g (suc n) (x ∷ a) [] e h d r = absurd (omega arith)
nodes_same f g (suc n) (x ∷ a) (y ∷ b) e h d r =
    rw (h 0 (suc-le-suc zero-le), nodes_same f g n a b (suc_inj e) (λ v l. h (suc v) (suc-le-suc l)) d (le_of_suc-le-suc r))

-- One function after another is their composition.
pub nodes_twice : (f g : ℕ → ℕ) (n : ℕ) (m : List ℕ) → on_nodes g n (on_nodes f n m) ≡ on_nodes (λ (x : ℕ). g (f x)) n m
unfolding on_nodes
nodes_twice f g zero m = refl
nodes_twice f g (suc n) [] = refl
nodes_twice f g (suc n) (b ∷ m) = ap (λ (r : List ℕ). g (f b) ∷ r) (nodes_twice f g n m)
