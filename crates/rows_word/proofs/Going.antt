-- Either of two lists by a test, and the loops over words in the terms of the code: a turn more, and the end.
use Prim.Native.Nat.{ℕ, zero, suc, ◌+◌, ◌-◌, ◌*◌, ◌/◌, ◌%◌, ◌^◌, ◌≤◌, ◌<◌}
use mathlib.Core.Path.{◌≡◌, refl, sym, ap, ◌∙◌}
use mathlib.Core.Bool.{Bool, true, false, cond, not, ◌||◌}
use mathlib.Core.List.{List}
use native.Mathlib.Omega.{arith}
use native.Mathlib.Nat.{one-mul}
use native.Mathlib.Decide.{ℕ_discrete}
use borrow.Author.Tests.{eq-eqb, ne_eqb}
use lib.Dec.{eqb, lit<}
use lib.ListN.{length, get_or, set}
use lib.Seq.{get_or-set_same, get_or-set_other, set-set, set_comm}
use lib.Pow.{shl_exact}
use lib.Bits.{bit_or, bit_and, or_add_and, and_le_l, and_le_r}
use Rattle.theory_laws.proofs.Booleans.{or_false, or_assoc}
use Rattle.rows_steps.specs.Rows.{put, gain, meets}
use Rattle.rows_steps.proofs.Places.{gain_before}

-- Either of two lists, by a test p that was made.
module _ {p q : Bool} (l r : List ℕ) (e : p ≡ q) where
  pub if_true : p ≡ true → {s : List ℕ} → s ≡ l → s ≡ cond q l r
  if_true f g = rw (← e, f) g

  pub if_false : p ≡ false → r ≡ cond q l r
  if_false f = rw (← e, f)

-- One shifted up to bit y of a word.
pub put_is : (a y : ℕ) (l : List ℕ) → set l (a + y / 64) (bit_or (get_or l (a + y / 64) 0) ((1 * 2 ^ (y % 64)) % 2 ^ 64)) ≡ put a y l
unfolding put
put_is a y l =
    let e : (1 * 2 ^ (y % 64)) % 2 ^ 64 ≡ 2 ^ (y % 64) = shl_exact 1 (y % 64) 64 (lit< tt) (omega arith) ∙ one-mul (2 ^ (y % 64)) in
    rw e

module _ (a b w : ℕ) (r l : List ℕ) where
  pub gain_start : gain a b w r l ≡ gain (a + 0) (b + 0) (w - 0) r l
  gain_start =
      let p : a + 0 ≡ a = omega arith in
      let q : b + 0 ≡ b = omega arith in
      let z : w - 0 ≡ w = omega arith in
      rw (p, q, z)

  pub gain_go : (j : ℕ) → j < w → gain (a + j) (b + j) (w - j) r l ≡ gain (a + (j + 1)) (b + (j + 1)) (w - (j + 1)) r (set l (a + j) (bit_or (get_or l (a + j) 0) (get_or r (b + j) 0)))
  unfolding gain
  gain_go j h =
      let p : a + (j + 1) ≡ suc (a + j) = omega arith in
      let q : b + (j + 1) ≡ suc (b + j) = omega arith in
      let z : w - j ≡ suc (w - (j + 1)) = omega arith in
      rw (p, q, z)

  pub gain_end : (j : ℕ) → w ≤ j → gain (a + j) (b + j) (w - j) r l ≡ l
  unfolding gain
  gain_end j h = let z : w - j ≡ 0 = omega arith in rw z

-- A word before those that gain is written before or after.
gain_set : (a b j : ℕ) (r l : List ℕ) (i v : ℕ) → i < a → set (gain a b j r l) i v ≡ gain a b j r (set l i v)
unfolding gain
gain_set a b zero r l i v h = refl
gain_set a b (suc j) r l i v h =
    let u = bit_or (get_or l a 0) (get_or r b 0) in
    let other : a ≡ i → ⊥ = λ (e : a ≡ i). omega arith in
    let same : get_or (set l i v) a 0 ≡ get_or l a 0 = get_or-set_other l i a v 0 other in
    gain_set (suc a) (suc b) j r (set l a u) i v (omega arith)
    ∙ ap (gain (suc a) (suc b) j r) (set_comm l a i u v other ∙ ap (λ (x : ℕ). set (set l i v) a (bit_or x (get_or r b 0))) (sym same))

-- Two rows of r gained, one after the other: word by word, both at once.
module _ (a b c w : ℕ) (r l : List ℕ) where
  pub gain_two_start : gain a c w r (gain a b w r l) ≡ gain (a + 0) (c + 0) (w - 0) r (gain (a + 0) (b + 0) (w - 0) r l)
  gain_two_start =
      let p : a + 0 ≡ a = omega arith in
      let q : b + 0 ≡ b = omega arith in
      let s : c + 0 ≡ c = omega arith in
      let z : w - 0 ≡ w = omega arith in
      rw (p, q, s, z)

  pub gain_two_go : (j : ℕ) → j < w → a + j < length l
      → gain (a + j) (c + j) (w - j) r (gain (a + j) (b + j) (w - j) r l)
      ≡ gain (a + (j + 1)) (c + (j + 1)) (w - (j + 1)) r
      (gain (a + (j + 1)) (b + (j + 1)) (w - (j + 1)) r (set l (a + j) (bit_or (bit_or (get_or l (a + j) 0) (get_or r (b + j) 0)) (get_or r (c + j) 0))))
  gain_two_go j h g =
      let u = bit_or (get_or l (a + j) 0) (get_or r (b + j) 0) in
      let l₁ = set l (a + j) u in
      let x = gain (a + (j + 1)) (b + (j + 1)) (w - (j + 1)) r l₁ in
      let here : get_or x (a + j) 0 ≡ u = gain_before (a + (j + 1)) (b + (j + 1)) (w - (j + 1)) r l₁ (a + j) (omega arith) ∙ get_or-set_same l (a + j) u 0 g in
      let v = bit_or u (get_or r (c + j) 0) in
      let put : set x (a + j) v ≡ gain (a + (j + 1)) (b + (j + 1)) (w - (j + 1)) r (set l (a + j) v) =
      gain_set (a + (j + 1)) (b + (j + 1)) (w - (j + 1)) r l₁ (a + j) v (omega arith) ∙ ap (gain (a + (j + 1)) (b + (j + 1)) (w - (j + 1)) r) (set-set l (a + j) u v) in
      ap (gain (a + j) (c + j) (w - j) r) (gain_go a b w r l j h)
      ∙ gain_go a c w r x j h
      ∙ ap (λ (t : ℕ). gain (a + (j + 1)) (c + (j + 1)) (w - (j + 1)) r (set x (a + j) (bit_or t (get_or r (c + j) 0)))) here
      ∙ ap (gain (a + (j + 1)) (c + (j + 1)) (w - (j + 1)) r) put

  pub gain_two_end : (j : ℕ) → w ≤ j → gain (a + j) (c + j) (w - j) r (gain (a + j) (b + j) (w - j) r l) ≡ l
  gain_two_end j h = gain_end a c w r (gain (a + j) (b + j) (w - j) r l) j h ∙ gain_end a b w r l j h

-- Some bit is set in one of two words exactly if it is in their disjunction.
some_or : (u v : ℕ) → not (eqb (bit_or u v) 0) ≡ (not (eqb u 0) || not (eqb v 0))
some_or u v = at (ℕ_discrete u 0) (ℕ_discrete v 0)
  where
    at : Dec (u ≡ 0) → Dec (v ≡ 0) → not (eqb (bit_or u v) 0) ≡ (not (eqb u 0) || not (eqb v 0))
    at (yes e) (yes f) =
        let z : bit_or u v ≡ 0 = omega (arith, or_add_and u v) in
        rw (eq-eqb (bit_or u v) 0 z, eq-eqb u 0 e, eq-eqb v 0 f)
    at (yes e) (no f) =
        let z : bit_or u v ≡ 0 → ⊥ = λ q. f (omega (arith, or_add_and u v, and_le_l u v)) in
        rw (ne_eqb (bit_or u v) 0 z, eq-eqb u 0 e, ne_eqb v 0 f)
    at (no e) d =
        let z : bit_or u v ≡ 0 → ⊥ = λ q. e (omega (arith, or_add_and u v, and_le_r u v)) in
        rw (ne_eqb (bit_or u v) 0 z, ne_eqb u 0 e)

-- The words still to come, where `both` gathers what was common to those before.
abbrev pub meets_from : ℕ → ℕ → ℕ → ℕ → List ℕ → List ℕ → Bool
meets_from both a b j l r = not (eqb both 0) || meets a b j l r

module _ (a b w : ℕ) (l r : List ℕ) where
  pub meets_start : meets a b w l r ≡ meets_from 0 (a + 0) (b + 0) (w - 0) l r
  meets_start =
      let p : a + 0 ≡ a = omega arith in
      let q : b + 0 ≡ b = omega arith in
      let z : w - 0 ≡ w = omega arith in
      rw (p, q, z)

  pub meets_go : (j both : ℕ) → j < w
      → meets_from both (a + j) (b + j) (w - j) l r ≡ meets_from (bit_or both (bit_and (get_or l (a + j) 0) (get_or r (b + j) 0))) (a + (j + 1)) (b + (j + 1)) (w - (j + 1)) l r
  unfolding meets
  meets_go j both h =
      let p : a + (j + 1) ≡ suc (a + j) = omega arith in
      let q : b + (j + 1) ≡ suc (b + j) = omega arith in
      let z : w - j ≡ suc (w - (j + 1)) = omega arith in
      let u = bit_and (get_or l (a + j) 0) (get_or r (b + j) 0) in
      rw (p, q, z) (sym (or_assoc (not (eqb both 0)) (not (eqb u 0)) (meets (suc (a + j)) (suc (b + j)) (w - (j + 1)) l r))
      ∙ ap (λ (t : Bool). t || meets (suc (a + j)) (suc (b + j)) (w - (j + 1)) l r) (sym (some_or both u)))

  pub meets_end : (j both : ℕ) → w ≤ j → meets_from both (a + j) (b + j) (w - j) l r ≡ not (eqb both 0)
  unfolding meets
  meets_end j both h = let z : w - j ≡ 0 = omega arith in rw z (or_false (not (eqb both 0)))
