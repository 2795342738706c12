-- A block without a word of the sign does nothing in a pass.
use Prim.Native.Nat.{ℕ, zero, suc, ◌+◌, ◌≤◌, ◌<◌}
use mathlib.Core.Path.{◌≡◌, ap, ◌∙◌}
use mathlib.Core.List.{List}
use native.Mathlib.Omega.{arith}
use borrow.Author.Tests.{ne_eqb}
use lib.ListN.{length, get_or, drop}
use Rattle.theory_laws.proofs.Booleans.{cond_same}
use Rattle.theory.specs.Words.{parity}
use Rattle.theory.specs.Origins.{plain_of, chooses, chosen}
use Rattle.scan_block.specs.Signs.{None}
use Rattle.scan_lanes.specs.Lanes.{lane_link, lane_pass, lane_from}
use Rattle.scan_pass.proofs.Links.{lane_go}

module _ (set sign : ℕ) where
  -- A word of another sign does nothing.
  other_sign : (w : ℕ) (m : List ℕ) → (parity w ≡ sign → ⊥) → lane_from set sign w m ≡ m
  unfolding lane_link
  other_sign w m f =
      let q : parity (plain_of w) ≡ parity w = omega arith in
      rw (q, ne_eqb (parity w) sign f) (cond_same (chooses set w) m)

  -- So do b words from place i on, if none has the sign.
  pub words_passed : (ws m : List ℕ) (b i : ℕ) → i + b ≤ length ws → None sign ws i b
      → lane_pass sign (chosen set (drop i ws)) m ≡ lane_pass sign (chosen set (drop (i + b) ws)) m
  words_passed ws m zero i h f = let e : i + zero ≡ i = omega arith in rw e
  words_passed ws m (suc b) i h f =
      let first : i + 0 ≡ i = omega arith in
      let last : i + 1 + b ≡ i + suc b = omega arith in
      let none : parity (get_or ws i 0) ≡ sign → ⊥ = rw first at (f 0 (omega arith)) in
      lane_go set sign ws i m (omega arith)
      ∙ ap (lane_pass sign (chosen set (drop (i + 1) ws))) (other_sign (get_or ws i 0) m none)
      ∙ rw last at (words_passed ws m b (i + 1) (omega arith) (λ k l. next k l))
    where
      next : (k : ℕ) → k < b → parity (get_or ws (i + 1 + k) 0) ≡ sign → ⊥
      next k l = let e : i + suc k ≡ i + 1 + k = omega arith in rw e at (f (suc k) (omega arith))
