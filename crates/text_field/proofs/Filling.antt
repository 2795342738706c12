-- The digits of a number as they are lent to be written.
use Prim.Native.Nat.{ℕ, ◌-◌}
use mathlib.Core.Path.{◌≡◌, ◌∙◌}
use mathlib.Core.List.{List}
use native.Mathlib.Omega.{arith}
use lib.ListN.{length, take, drop, length-drop}
use lib.Seq.{take_all}

-- The digits of a number are what is lent of the place where they were spelled.
pub spelled : (d f : List ℕ) (n a : ℕ) → length d ≡ n → drop a d ≡ f → take (n - a) (drop a d) ≡ f
spelled d f n a e h = take_all (n - a) (drop a d) (simp length-drop (omega arith)) ∙ h
