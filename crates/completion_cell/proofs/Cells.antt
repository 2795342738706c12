-- The words about one node and one kind, by the byte, in the terms of the code.
use Prim.Native.Nat.{ℕ, zero, suc, ◌+◌, ◌*◌, ◌/◌, ◌%◌, ◌≤◌}
use mathlib.Core.Path.{◌≡◌, refl, sym, ap, ◌∙◌}
use mathlib.Core.Bool.{Bool, true, false, cond}
use mathlib.Core.List.{List, [], ◌∷◌, ◌++◌}
use native.Mathlib.Omega.{arith}
use lib.ListN.{length, set}
use Rattle.theory_laws.specs.Over.{over}
use Rattle.theory_laws.proofs.Over.{put_one, put_two}
use Rattle.theory.specs.Words.{is, isnt, word}
use Rattle.theory.specs.Marks.{says_yes, says_no}
use Rattle.theory.specs.Completion.{cell}
use Rattle.theory.proofs.machine.Bytes.{has_U, no_U, has_F, no_F}

both_length : (p q : Bool) (v w : ℕ) → length (cond p (v ∷ []) [] ++ cond q (w ∷ []) []) ≡ cond p 1 0 + cond q 1 0
both_length true true v w = refl
both_length true false v w = refl
both_length false true v w = refl
both_length false false v w = refl

-- How a yes and a no count.
count_yes : (b : ℕ) → cond (says_yes b) 1 0 ≡ b / 4 % 2
count_yes b = at (b / 4 % 2) refl
  where
    at : (q : ℕ) → b / 4 % 2 ≡ q → cond (says_yes b) 1 0 ≡ b / 4 % 2
    at zero e = rw (no_U b (λ (i : b / 4 % 2 ≡ 1). omega arith)) (omega arith)
    at (suc q) e = rw (has_U b (omega arith)) (omega arith)

count_no : (b : ℕ) → cond (says_no b) 1 0 ≡ b / 2 % 2
count_no b = at (b / 2 % 2) refl
  where
    at : (q : ℕ) → b / 2 % 2 ≡ q → cond (says_no b) 1 0 ≡ b / 2 % 2
    at zero e = rw (no_F b (λ (i : b / 2 % 2 ≡ 1). omega arith)) (omega arith)
    at (suc q) e = rw (has_F b (omega arith)) (omega arith)

module _ (x y b : ℕ) where
  -- How many words they are.
  pub cell_length : length (cell x y b) ≡ b / 4 % 2 + b / 2 % 2
  cell_length = both_length (says_yes b) (says_no b) (word x y is) (word x y isnt) ∙ ap (λ (i : ℕ). i + cond (says_no b) 1 0) (count_yes b) ∙ ap (λ (i : ℕ). b / 4 % 2 + i) (count_no b)

  -- They are these, by what the byte says.
  cell_as : (p q : Bool) → says_yes b ≡ p → says_no b ≡ q → cell x y b ≡ cond p ((x * 2048 + y * 2) ∷ []) [] ++ cond q ((x * 2048 + y * 2 + 1) ∷ []) []
  cell_as p q u f =
      let first : word x y is ≡ x * 2048 + y * 2 = omega arith in
      ap (λ (r : Bool). cond r (word x y is ∷ []) [] ++ cond (says_no b) (word x y isnt ∷ []) []) u
      ∙ ap (λ (r : Bool). cond p (word x y is ∷ []) [] ++ cond r (word x y isnt ∷ []) []) f
      ∙ ap (λ (i : ℕ). cond p (i ∷ []) [] ++ cond q (word x y isnt ∷ []) []) first

  -- What the code leaves of the list l.
  module _ (l : List ℕ) (h : length (cell x y b) ≤ length l) where
    leaves : (p q : Bool) (l' : List ℕ) → says_yes b ≡ p → says_no b ≡ q → l' ≡ over (cond p ((x * 2048 + y * 2) ∷ []) [] ++ cond q ((x * 2048 + y * 2 + 1) ∷ []) []) l → l' ≡ over (cell x y b) l
    leaves p q l' u f e = e ∙ ap (λ (r : List ℕ). over r l) (sym (cell_as p q u f))

    pub write_both : b / 4 % 2 ≡ 1 → b / 2 % 2 ≡ 1 → (2 ≡ length (cell x y b)) × (set (set l 0 (x * 2048 + y * 2)) 1 (x * 2048 + y * 2 + 1) ≡ over (cell x y b) l)
    write_both u f = (omega (arith, cell_length), leaves true true _ (has_U b u) (has_F b f) (put_two l (x * 2048 + y * 2) (x * 2048 + y * 2 + 1) (omega (arith, cell_length))))

    pub write_yes : b / 4 % 2 ≡ 1 → (b / 2 % 2 ≡ 1 → ⊥) → (1 ≡ length (cell x y b)) × (set l 0 (x * 2048 + y * 2) ≡ over (cell x y b) l)
    write_yes u f = (omega (arith, cell_length), leaves true false _ (has_U b u) (no_F b f) (put_one l (x * 2048 + y * 2) (omega (arith, cell_length))))

    pub write_no : (b / 4 % 2 ≡ 1 → ⊥) → b / 2 % 2 ≡ 1 → (1 ≡ length (cell x y b)) × (set l 0 (x * 2048 + y * 2 + 1) ≡ over (cell x y b) l)
    write_no u f = (omega (arith, cell_length), leaves false true _ (no_U b u) (has_F b f) (put_one l (x * 2048 + y * 2 + 1) (omega (arith, cell_length))))

    pub write_none : (b / 4 % 2 ≡ 1 → ⊥) → (b / 2 % 2 ≡ 1 → ⊥) → (0 ≡ length (cell x y b)) × (l ≡ over (cell x y b) l)
    write_none u f = (ap length (sym (cell_as false false (no_U b u) (no_F b f))), leaves false false l (no_U b u) (no_F b f) refl)
