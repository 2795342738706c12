-- The marks to begin with for one word more.
use Prim.Native.Nat.{ℕ, ◌<◌}
use mathlib.Core.Path.{◌≡◌, refl, ◌∙◌}
use mathlib.Core.Bool.{Bool, true, false, cond}
use mathlib.Core.List.{List}
use native.Mathlib.Omega.{arith}
use lib.Dec.{eqb}
use lib.ListN.{length, get_or}
use borrow.Author.Tests.{eq-eqb, ne_eqb}
use Rattle.theory.specs.Words.{tail_of, head_of, parity}
use Rattle.theory.specs.Marks.{T, F, U, has, mark, blank, At}
use Rattle.theory.specs.Inside.{Ends}
use Rattle.theory.proofs.machine.Growth.{mark_step}
use Rattle.theory.proofs.machine.Commands.{mark_length}
use Rattle.theory.proofs.machine.Soundness.{Within}
use Rattle.theory.proofs.machine.Starts.{blank_none, blank_room, mark_within, mark_has, mark_keeps, T_long}
use Rattle.theory.proofs.machine.Bounds.{BytesBelow, T_below}
use Rattle.theory.specs.Mending.{head_marker, link_start}

pub marker_is : (w : ℕ) → parity w ≡ 0 → head_marker w ≡ U
marker_is w e = rw (eq-eqb (parity w) 0 e)

pub marker_isnt : (w : ℕ) → parity w ≡ 1 → head_marker w ≡ F
marker_isnt w e = rw (ne_eqb (parity w) 0 (λ (z : parity w ≡ 0). omega arith))

pub marker_small : (w : ℕ) → head_marker w < 3
marker_small w = at (eqb (parity w) 0)
  where
    at : (b : Bool) → cond b U F < 3
    at true = omega arith
    at false = omega arith

module _ (n w : ℕ) (e : Ends n w) where
  abbrev first : List ℕ
  first = mark T (tail_of w) (blank n)

  head_room : head_of w < length first
  head_room = let h = e.head_in in omega (arith, T_long n (tail_of w) e.tail_in)

  pub link_long : length (link_start n w) ≡ n
  link_long = mark_length (head_marker w) (head_of w) first ∙ T_long n (tail_of w) e.tail_in

  pub link_low : BytesBelow n 3 (link_start n w)
  link_low =
      (mark_step n 3 (head_marker w) (marker_small w) first (head_of w) (has (head_marker w) (get_or first (head_of w) 0)) refl e.head_in
      (omega (arith, T_long n (tail_of w) e.tail_in))).low (T_below n (tail_of w) e.tail_in 3 (omega arith))

  pub link_within : (P : ℕ → ℕ → Type 0) → P T (tail_of w) → P (head_marker w) (head_of w) → Within P (link_start n w)
  link_within P p q = mark_within P (head_marker w) (head_of w) first head_room q (mark_within P T (tail_of w) (blank n) (blank_room n (tail_of w) e.tail_in) p (λ j v a. absurd (blank_none n j v a)))

  pub link_has_T : At (link_start n w) T (tail_of w)
  link_has_T = mark_keeps (head_marker w) (head_of w) first head_room T (tail_of w) (mark_has T (tail_of w) (blank n) (blank_room n (tail_of w) e.tail_in))

  pub link_has_head : At (link_start n w) (head_marker w) (head_of w)
  link_has_head = mark_has (head_marker w) (head_of w) first head_room
