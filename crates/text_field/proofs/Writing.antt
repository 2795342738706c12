-- Writers one after another, each into what the one before it leaves.
use Prim.Native.Nat.{ℕ, ◌+◌, ◌-◌, ◌≤◌}
use mathlib.Core.Path.{◌≡◌, sym, ap, ◌∙◌}
use mathlib.Core.List.{List, ◌++◌}
use native.Mathlib.Omega.{arith}
use lib.ListN.{length, take, drop, length-append, length-take, length-drop}
use Rattle.theory_laws.proofs.Over.{length_over, over_more}
use Rattle.text_field.specs.Writing.{Wrote}

-- What is left of a text after a writer, to be lent to the next.
abbrev pub rest : ℕ → List ℕ → List ℕ
rest at xs = take (length xs - at) (drop at xs)

-- The whole text again, with its rest as it came back.
abbrev pub rejoined : ℕ → List ℕ → List ℕ → List ℕ
rejoined at xs ys = take at xs ++ (ys ++ drop (length xs - at) (drop at xs))

module _ {ws l xs : List ℕ} {at : ℕ} (w : Wrote ws l xs at) (h : length ws ≤ length l) where
  -- A writer keeps the length, stays inside it, and leaves the rest of the room.
  pub room : (length xs ≡ length l) × ((at ≤ length xs) × (length (rest at xs) ≡ length l - length ws))
  room =
      let e : length xs ≡ length l = ap length w.list ∙ length_over ws l h in
      let f : at ≡ length ws = w.size in
      (e, (omega arith, simp (length-take, length-drop) (omega arith)))

  -- Two writers, one after the other.
  pub wrote_more : {vs ys : List ℕ} {r : ℕ} → Wrote vs (rest at xs) ys r → Wrote (ws ++ vs) l (rejoined at xs ys) (at + r)
  wrote_more {vs} {ys} {r} v =
      let f : at ≡ length ws = w.size in
      let g : r ≡ length vs = v.size in
      record {
        list = over_more ws vs l xs ys at (sym f) (omega arith) w.list v.list;
        size = simp length-append (omega arith);
      }

-- What was written, said in another way.
pub wrote_as : {ws vs l xs : List ℕ} {r : ℕ} → ws ≡ vs → Wrote ws l xs r → Wrote vs l xs r
wrote_as e w = rw (← e) w
