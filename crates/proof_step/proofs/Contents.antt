-- One entry more of the contents in front of the list.
use Prim.Native.Nat.{ℕ, zero, suc, ◌+◌, ◌-◌, ◌*◌, ◌≤◌, ◌<◌}
use mathlib.Core.Path.{◌≡◌, refl, sym, ap, ◌∙◌}
use mathlib.Core.List.{List, [], ◌∷◌, ◌++◌, append_assoc, append-nil}
use native.Mathlib.Omega.{arith}
use native.Mathlib.Numerals.{add-one}
use lib.ListN.{length, set, length-append}
use Rattle.theory_laws.specs.Over.{over}
use Rattle.theory_laws.proofs.Over.{over_one}
use Rattle.proof_form.specs.Ours.{nested}
use Rattle.proof_form.proofs.Writing.{nested_go}

module _ (b s m : ℕ) where
  -- The first j entries.
  unfoldable pub front : ℕ → List ℕ
  front zero = []
  front (suc j) = front j ++ ((b + 3 * (s + j + 1)) ∷ (1 + 2 * (m - j - 1)) ∷ [])

  length_front : (j : ℕ) → length (front j) ≡ 2 * j
  unfolding front
  length_front zero = refl
  length_front (suc j) = let e = length_front j in let f = length-append (front j) ((b + 3 * (s + j + 1)) ∷ (1 + 2 * (m - j - 1)) ∷ []) in omega arith

  front_rest : (j : ℕ) → j ≤ m → front j ++ nested b (s + j) (m - j) ≡ nested b s m
  unfolding front
  front_rest zero h = let e : s + 0 ≡ s = omega arith in let f : m - 0 ≡ m = omega arith in rw (e, f)
  front_rest (suc j) h =
      let n = nested_go b s j m h (nested b (s + j) (m - j)) refl in
      let e : b + 3 * (s + j + 1) ≡ b + 3 * suc (s + j) = omega arith in
      let f : 1 + 2 * (m - j - 1) ≡ suc (2 * (m - suc j)) = omega arith in
      append_assoc (front j) ((b + 3 * (s + j + 1)) ∷ (1 + 2 * (m - j - 1)) ∷ []) (nested b (s + suc j) (m - suc j))
      ∙ (rw (e, f) (ap (λ z. front j ++ z) (sym n)) ∙ front_rest j (omega arith))

  module _ (l : List ℕ) where
    pub front_start : l ≡ over (front 0) l
    unfolding front
    front_start = refl

    pub front_more : (j : ℕ) (xs : List ℕ) → j < m → 2 * m ≤ length l → xs ≡ over (front j) l → set (set xs (2 * j) (b + 3 * (s + j + 1))) (2 * j + 1) (1 + 2 * (m - j - 1)) ≡ over (front (j + 1)) l
    unfolding front
    front_more j xs h r e =
        let x = b + 3 * (s + j + 1) in
        let y = 1 + 2 * (m - j - 1) in
        let n = length_front j in
        let l1 = length-append (front j) (x ∷ []) in
        let s1 : set xs (2 * j) x ≡ over (front j ++ (x ∷ [])) l = rw e (over_one (front j) l x (2 * j) n (omega arith)) in
        let s2 : set (set xs (2 * j) x) (2 * j + 1) y ≡ over ((front j ++ (x ∷ [])) ++ (y ∷ [])) l = rw s1 (over_one (front j ++ (x ∷ [])) l y (2 * j + 1) (omega arith) (omega arith)) in
        let q : front (j + 1) ≡ front j ++ (x ∷ y ∷ []) = rw (add-one j) in
        s2 ∙ ap (λ z. over z l) (append_assoc (front j) (x ∷ []) (y ∷ []) ∙ sym q)

    pub front_end : (j : ℕ) (xs : List ℕ) → j ≤ m → m ≤ j → xs ≡ over (front j) l → xs ≡ over (nested b s m) l
    unfolding nested
    front_end j xs h g e =
        let z : j ≡ m = omega arith in
        let n : m - m ≡ 0 = omega arith in
        let w : front m ≡ nested b s m = sym (append-nil (front m)) ∙ (rw n at (front_rest m (omega arith))) in
        rw (z, w) at e
