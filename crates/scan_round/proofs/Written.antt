-- Marks written for the pass over "is", and read back.
use Prim.Native.Nat.{ℕ, zero, suc, ◌≤◌, ◌<◌, zero-le, suc-le-suc}
use mathlib.Core.Path.{◌≡◌, refl, sym, ap, ◌∙◌}
use mathlib.Core.List.{List, [], ◌∷◌}
use native.Mathlib.Omega.{arith}
use lib.ListN.{length}
use Rattle.scan_start.specs.Starts.{Low}
use Rattle.scan_lanes.specs.Codes.{on_nodes, is_code, is_marks, marks_of, Written}
use Rattle.scan_lanes.proofs.Nodes.{nodes_at, nodes_length}
use Rattle.scan_lanes.proofs.Bytes.{upto, each}

-- Three marks of a node, written and read back, are themselves.
byte_coded : (b : ℕ) → b < 8 → is_marks (is_code b) ≡ b
unfolding upto
byte_coded = each 8 (λ b. is_marks (is_code b)) (λ b. b) refl

pub marks_coded : (n : ℕ) (m : List ℕ) → Low n m → marks_of n (on_nodes is_code n m) ≡ m
unfolding on_nodes
marks_coded zero m h = refl
marks_coded (suc n) [] h = refl
marks_coded (suc n) (b ∷ m) h = rw (byte_coded b (h 0 (suc-le-suc zero-le)), marks_coded n m (λ v l. h (suc v) (suc-le-suc l)))

-- What is read back are three marks.
pub marks_low : (n : ℕ) (m : List ℕ) → n ≤ length m → Low n (marks_of n m)
marks_low n m r v l = rw (nodes_at is_marks n m v l (omega arith)) (omega arith)

pub marks_room : (n : ℕ) (m : List ℕ) → n ≤ length m → n ≤ length (marks_of n m)
marks_room n m r = omega (arith, nodes_length is_marks n m)

-- Bytes e that marks m of n nodes are written as.
module _ (n : ℕ) (e m : List ℕ) (w : e ≡ on_nodes is_code n m) where
  pub written_long : length e ≡ length m
  written_long = ap length w ∙ nodes_length is_code n m

  pub written_back : Low n m → marks_of n e ≡ m
  written_back h = rw w (marks_coded n m h)

  pub written_so : Low n m → Written n e
  written_so h = w ∙ ap (on_nodes is_code n) (sym (written_back h))
