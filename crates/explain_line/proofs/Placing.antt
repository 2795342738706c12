-- The place of a link as its loop looks for it.
use Prim.Native.Nat.{ℕ, ◌+◌, ◌<◌, ◌≤◌}
use mathlib.Core.Path.{◌≡◌}
use mathlib.Core.Bool.{Bool, true, false, ◌&&◌}
use mathlib.Core.List.{List}
use native.Mathlib.Omega.{arith}
use native.Mathlib.Numerals.{add-one}
use lib.Dec.{eqb}
use lib.ListN.{length, get_or, drop, drop_of_length-le}
use lib.Seq.{drop-cons}
use Rattle.theory.specs.Words.{tail_of, head_of, parity}
use Rattle.theory.specs.Origins.{plain_of, chooses}
use Rattle.derivation_lines.specs.Tests.{says}
use Rattle.derivation_lines.specs.Deriving.{place_of}

pub says_read : (set w x y p : ℕ) {c : Bool} {v t h : ℕ} → c ≡ chooses set w → v ≡ plain_of w → t ≡ tail_of v → h ≡ head_of v
    → (c && (eqb t x && (eqb h y && eqb (parity v) p))) ≡ says set x y p w
says_read set w x y p a b e f = rw (e, f, a, b)

module _ (set x y p : ℕ) (ws : List ℕ) (i : ℕ) where
  pub place_go : i < length ws → says set x y p (get_or ws i 0) ≡ false → place_of set x y p (drop i ws) ≡ 1 + place_of set x y p (drop (i + 1) ws)
  unfolding place_of
  place_go h t = rw (add-one i, drop-cons ws i 0, t) (omega arith)

  pub place_stop : i < length ws → says set x y p (get_or ws i 0) ≡ true → place_of set x y p (drop i ws) ≡ 0
  unfolding place_of
  place_stop h t = rw (drop-cons ws i 0, t)

  pub place_end : length ws ≤ i → place_of set x y p (drop i ws) ≡ 0
  unfolding place_of
  place_end h = rw (drop_of_length-le ws h)
