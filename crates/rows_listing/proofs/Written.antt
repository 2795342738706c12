-- A list that is being written: what stands in front of it and what is left to write make up the whole.
use Prim.Native.Nat.{ℕ, ◌+◌, ◌-◌, ◌≤◌}
use mathlib.Core.Path.{◌≡◌, refl, sym, ap, ◌∙◌}
use mathlib.Core.List.{List, [], ◌++◌, append_assoc, append-nil}
use native.Mathlib.Omega.{arith}
use lib.ListN.{length, take, drop, length-append, length-take, length-drop}
use Rattle.theory_laws.specs.Over.{over}
use Rattle.theory_laws.proofs.Over.{length_over, written_more}

-- Of `whole` all but `left` stands in front of l, which is then xs, as far as place `at`.
pub record Written (whole left l xs : List ℕ) (at : ℕ) : Type 0 where
  pub done : List ℕ
  pub split : done ++ left ≡ whole
  pub place : at ≡ length done
  pub stands : xs ≡ over done l

pub written_start : {whole l : List ℕ} → Written whole whole l l 0
written_start = record { done = []; split = refl; place = refl; stands = refl }

module _ (whole l : List ℕ) (fits : length whole ≤ length l) {left xs : List ℕ} {at : ℕ} (so : Written whole left l xs at) where
  sizes : length so.done + length left ≡ length whole
  sizes = sym (length-append so.done left) ∙ ap length so.split

  pub written_long : length xs ≡ length l
  written_long = ap length so.stands ∙ length_over so.done l (omega (arith, sizes))

  -- There is room for what is left.
  pub written_room : at + length left ≤ length xs
  written_room = omega (arith, sizes, written_long, so.place)

  pub part_ends : (part rest : List ℕ) → left ≡ part ++ rest → at + length part ≤ length xs
  part_ends part rest e = omega (arith, written_room, ap length e ∙ length-append part rest)

  -- Room for its first part, in what remains of the list.
  pub part_room : (part rest : List ℕ) → left ≡ part ++ rest → length part ≤ length (take (length xs - at) (drop at xs))
  part_room part rest e = simp (length-take, length-drop) (omega (arith, written_room, ap length e ∙ length-append part rest))

  -- A part more.
  pub written_next : (part rest : List ℕ) → left ≡ part ++ rest → (size : ℕ) (ys : List ℕ) → size ≡ length part → ys ≡ over part (take (length xs - at) (drop at xs))
      → Written whole rest l (take at xs ++ (ys ++ drop (length xs - at) (drop at xs))) (at + size)
  written_next part rest e size ys s y =
      let both = ap length e ∙ length-append part rest in
      let t = written_more so.done part (so.done ++ part) l xs ys at size refl (omega (arith, sizes, both)) so.place so.stands s y in
      record {
        done = so.done ++ part;
        split = append_assoc so.done part rest ∙ ap (λ (q : List ℕ). so.done ++ q) (sym e) ∙ so.split;
        place = t.1;
        stands = t.2;
      }

  -- Nothing is left.
  pub written_end : left ≡ [] → (at ≡ length whole) × (xs ≡ over whole l)
  written_end e =
      let z : so.done ≡ whole = sym (append-nil so.done) ∙ ap (λ (q : List ℕ). so.done ++ q) (sym e) ∙ so.split in
      (so.place ∙ ap length z, so.stands ∙ ap (λ (q : List ℕ). over q l) z)
