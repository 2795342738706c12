-- A text that is being written: what was written and what is left make up the whole.
use Prim.Native.Nat.{ℕ, ◌+◌, ◌-◌, ◌≤◌}
use mathlib.Core.Path.{◌≡◌, refl, sym, ap, ◌∙◌}
use mathlib.Core.List.{List, [], ◌++◌, append_assoc, append-nil}
use native.Mathlib.Omega.{arith}
use lib.ListN.{length}
use Rattle.text_field.specs.Writing.{Wrote}
use Rattle.text_field.proofs.Writing.{rest, rejoined, room, wrote_more, wrote_as}

pub record Left (whole left l xs : List ℕ) (at : ℕ) : Type 0 where
  pub done : List ℕ
  pub split : done ++ left ≡ whole
  pub wrote : Wrote done l xs at

pub left_start : {whole l : List ℕ} → Left whole whole l l 0
left_start = record { done = []; split = refl; wrote = record { list = refl; size = refl } }

module _ {whole left l xs : List ℕ} {at : ℕ} (so : Left whole left l xs at) (fits : at ≤ length l) where
  inside : length so.done ≤ length l
  inside = omega (arith, so.wrote.size, fits)

  pub left_room : (length xs ≡ length l) × ((at ≤ length xs) × (length (rest at xs) ≡ length l - length so.done))
  left_room = room so.wrote inside

  -- A part more.
  pub left_next : {part more ys : List ℕ} {r : ℕ} → left ≡ part ++ more → Wrote part (rest at xs) ys r → Left whole more l (rejoined at xs ys) (at + r)
  left_next {part} {more} e w = record {
    done = so.done ++ part;
    split = append_assoc so.done part more ∙ ap (λ (q : List ℕ). so.done ++ q) (sym e) ∙ so.split;
    wrote = wrote_more so.wrote inside w;
  }

  -- Nothing is left.
  pub left_end : left ≡ [] → Wrote whole l xs at
  left_end e = wrote_as (sym (append-nil so.done) ∙ ap (λ (q : List ℕ). so.done ++ q) (sym e) ∙ so.split) so.wrote
