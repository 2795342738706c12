-- Our list is accepted whenever it fits the depth.
use Prim.Native.Nat.{ℕ, ◌+◌, ◌-◌, ◌*◌, ◌≤◌, ◌<◌}
use mathlib.Core.Path.{◌≡◌, sym}
use mathlib.Core.Bool.{Bool, true, false, cond}
use mathlib.Core.List.{List}
use native.Mathlib.Omega.{arith}
use lib.Dec.{ltb}
use lib.ListN.{length}
use Rattle.theory.specs.Words.{Sign, word}
use Rattle.theory.specs.Nets.{Kind, Links, Net}
use Rattle.theory.specs.Reasons.{Strict}
use Rattle.theory.specs.ProofFiles.{proof_file, depth_limit, list_limit, Proves}
use Rattle.proof_form.specs.Checker.{check_proof}
use Rattle.proof_form.specs.Ours.{our_file, our_depth, our_size}
use Rattle.proof_form.specs.declared.Found.TheVariants.{Right}
use Rattle.theory.proofs.sequent.Measures.{length_file, left_steps_size}
use Rattle.proof_form.proofs.Accepted.{proves_accepted}
use Rattle.proof_form.proofs.Building.{ours}

-- Ours has few steps where it fits the depth.
size_limit : (o x n : ℕ) → our_depth o x n ≤ depth_limit → our_size o x n ≤ 512
unfolding our_depth our_size
size_limit o x n h = at (ltb x o) h
  where
    at : (b : Bool) → cond b n (n + 2) ≤ depth_limit → cond b (2 * n - 1) (2 * n + 2) ≤ 512
    at true h = omega arith
    at false h = omega arith

module _ (o k : ℕ) (ws : List ℕ) (net : Net o k ws) (x y : ℕ) (s : Sign) (hx : x < o + k) (hy : Kind o k y) where
  -- Our list proves the statement that the path shows, if it fits the depth.
  pub ours_proves : (xs ys : List ℕ) → Strict (Links ws) x xs ys y s → our_depth o x (length xs + length ys) ≤ depth_limit → Proves o k ws x y s (our_file o (o + k) ws x y s xs ys)
  ours_proves xs ys p d =
      let r = ours o k ws net x y s xs ys hx hy p in
      let z = length_file r.proof in
      let zl = left_steps_size r.proof in
      let zs = r.sized in
      let zm = size_limit o x (length xs + length ys) d in
      let short : length (proof_file r.proof) ≤ list_limit = omega arith in
      record { proof = r.proof; shallow = rw r.deep d; short = rw r.form at short; form = sym r.form }

  -- So it is accepted.
  pub ours_accepted : (xs ys : List ℕ) → Strict (Links ws) x xs ys y s → our_depth o x (length xs + length ys) ≤ depth_limit → check_proof o (o + k) ws (word x y s) (our_file o (o + k) ws x y s xs ys) ≡ Right
  ours_accepted xs ys p d = proves_accepted o k ws net x y s hy (our_file o (o + k) ws x y s xs ys) (ours_proves xs ys p d)
