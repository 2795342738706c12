-- The test of one word, in the terms of the code.
use Prim.Native.Nat.{ℕ, ◌+◌, ◌/◌, ◌%◌}
use mathlib.Core.Path.{◌≡◌, refl, sym, ap, ◌∙◌}
use mathlib.Core.List.{List}
use native.Mathlib.Omega.{arith}
use lib.Dec.{eqb}
use lib.ListN.{get_or, take}
use lib.Seq.{get_or-take}
use Rattle.theory.specs.Words.{tail_of, head_of, parity}
use Rattle.theory.specs.Nets.{Net, LegalWord}
use Rattle.theory.specs.Marks.{U, F, has}
use Rattle.theory.specs.Scans.{full_scan}
use Rattle.theory.specs.Origins.{chosen}
use Rattle.theory.specs.Completion.{full_marks}
use Rattle.theory.specs.Compaction.{supports}
use Rattle.theory.proofs.origins.Choosing.{chosen_plain}
use Rattle.theory.proofs.origins.Statements.{net_plain}

-- The code scanned from the tail of w, and was left with the marks m'.
module _ (o k n : ℕ) (ws : List ℕ) (w : ℕ) (net : Net o k ws) (h : LegalWord o k w) (size : n ≡ o + k) (m' : List ℕ)
    (e : take n m' ≡ (full_scan n (chosen 1 ws) (tail_of w)).marks) where
  left : take n m' ≡ full_marks o k ws (tail_of w)
  left =
      e
      ∙ ap (λ (l : List ℕ). (full_scan n l (tail_of w)).marks) (chosen_plain 1 refl ws (net_plain o k ws net))
      ∙ ap (λ (v : ℕ). (full_scan v ws (tail_of w)).marks) size

  byte : get_or m' (head_of w) 0 ≡ get_or (full_marks o k ws (tail_of w)) (head_of w) 0
  byte = sym (get_or-take n m' (head_of w) 0 (let q = h.head.high in omega (arith, size))) ∙ ap (λ (l : List ℕ). get_or l (head_of w) 0) left

  pub reads_is : parity w ≡ 0 → eqb (get_or m' (head_of w) 0 / 4 % 2) 1 ≡ supports o k ws w
  reads_is p = rw p (ap (has U) byte)

  pub reads_isnt : (parity w ≡ 0 → ⊥) → eqb (get_or m' (head_of w) 0 / 2 % 2) 1 ≡ supports o k ws w
  reads_isnt p =
      let q : parity w ≡ 1 = omega arith in
      rw q (ap (has F) byte)
