-- The parts of the test, in the terms of the code.
use Prim.Native.Nat.{ℕ, ◌-◌, ◌/◌, ◌%◌}
use mathlib.Core.Path.{◌≡◌}
use mathlib.Core.Bool.{Bool, true, false}
use mathlib.Core.List.{List}
use native.Mathlib.Omega.{arith}
use borrow.Author.Tests.{le-ltb, eq-eqb, ne_eqb}
use lib.Dec.{eqb}
use lib.ListN.{length}
use Rattle.theory.specs.Words.{Sign}
use Rattle.derivation_lines.specs.Tests.{is_above, checks}
use Rattle.derivation_lines.specs.Flat.{lines_of}
use Rattle.theory_laws.proofs.Booleans.{and_false}
use Rattle.derivation_lines.proofs.Flatness.{lines_length}
use Rattle.derivation_check.specs.Table.{accepts}

module _ (o k set : ℕ) (ws : List ℕ) (x y : ℕ) (s : Sign) (l : List ℕ) where
  -- A line is cut off.
  pub not_whole : (length l % 4 ≡ 0 → ⊥) → false ≡ accepts o k set ws x y s l
  not_whole h = rw (ne_eqb (length l % 4) 0 h)

  -- There is no line.
  pub no_line : length l / 4 ≡ 0 → false ≡ accepts o k set ws x y s l
  no_line h = rw (le-ltb (length (lines_of l) - 1) (length (lines_of l)) (omega (arith, lines_length l)), and_false (eqb (length l % 4) 0))

  module _ {a : Bool} (last : a ≡ is_above (lines_of l) (length l / 4) (length l / 4 - 1) x y s) where
    said : a ≡ is_above (lines_of l) (length (lines_of l)) (length (lines_of l) - 1) x y s
    said = rw (lines_length l) last

    -- The last says something else.
    pub other_last : a ≡ false → false ≡ accepts o k set ws x y s l
    other_last h = rw (← said, h, and_false (eqb (length l % 4) 0))

    -- The last is right, and the lines decide.
    pub lines_decide : (length l % 4 ≡ 0) → a ≡ true → {b : Bool} → b ≡ checks o k set ws (lines_of l) → b ≡ accepts o k set ws x y s l
    lines_decide w h e = rw (eq-eqb (length l % 4) 0 w, ← said, h) e
