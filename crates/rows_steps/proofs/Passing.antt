-- No passed down to what a kind is (3.5): nothing wrong is set, and nothing is left out, though rows change on the way.
use Prim.Native.Nat.{ℕ, zero, suc, ◌+◌, ◌*◌, ◌/◌, ◌%◌, ◌≤◌, ◌<◌}
use mathlib.Core.Path.{◌≡◌, sym, ap, ◌∙◌}
use mathlib.Core.Bool.{true, false, cond, not, ◌&&◌}
use mathlib.Core.List.{List}
use native.Mathlib.Omega.{arith}
use native.Mathlib.Nat.{lt_of_le_of_lt}
use native.Mathlib.Decide.{ℕ_discrete}
use borrow.Author.Tests.{eqb-false, ne_eqb, not-true}
use lib.Dec.{eqb}
use lib.ListN.{length, get_or}
use lib.Bits.{bit_and, and_le_l}
use lib.Count.{count_trailing_zeros}
use Rattle.theory_laws.proofs.Booleans.{contradiction, or_true, or_split, and_left, and_right, and_both}
use Rattle.theory_laws.proofs.Bits.{bit_zero, bit_and_lem}
use Rattle.theory.specs.Marks.{has}
use Rattle.rows_steps.proofs.Lowest.{lowest}
use Rattle.theory.specs.Rows.{Wide, bit_at}
use Rattle.rows_steps.specs.Rows.{put, meets}
use Rattle.rows_steps.specs.Steps.{back_row, back}
use Rattle.rows_steps.proofs.Grown.{Grown, grown_none, grown_then, grown_if}
use Rattle.rows_steps.proofs.Places.{put_same}
use Rattle.rows_steps.proofs.Sound.{Sound, still, put_sound, sound_if}
use Rattle.rows_steps.proofs.Links.{bit_grown}

-- A bit that j words of l from place a on and j words of r from place b on have in common.
record Common (a b j : ℕ) (l r : List ℕ) : Type 0 where
  place : ℕ
  bit : ℕ
  inside : place < j
  small : bit < 64
  left : has bit (get_or l (a + place) 0) ≡ true
  right : has bit (get_or r (b + place) 0) ≡ true

module _ (n w : ℕ) (few : n ≤ w * 64) where
  -- ── two rows that meet ──
  meets_bit : (a b j : ℕ) (l r : List ℕ) → Wide l → meets a b j l r ≡ true → Common a b j l r
  unfolding meets
  meets_bit a b zero l r d e = contradiction e
  meets_bit a b (suc j) l r d e = or_split (not (eqb (bit_and (get_or l a 0) (get_or r b 0)) 0)) (meets (suc a) (suc b) j l r) e
      (λ q.
      let u = get_or l a 0 in
      let v = get_or r b 0 in
      let f : bit_and u v ≡ 0 → ⊥ = eqb-false (bit_and u v) 0 (not-true (eqb (bit_and u v) 0) q) in
      let low = lowest 64 (bit_and u v) (omega arith) (lt_of_le_of_lt (and_le_l u v) (d a)) in
      let t = count_trailing_zeros 64 (bit_and u v) in
      let two : (has t u && has t v) ≡ true = sym (bit_and_lem t u v) ∙ low.set in
      let za : a + 0 ≡ a = omega arith in
      let zb : b + 0 ≡ b = omega arith in
      record { place = 0; bit = t; inside = omega arith; small = low.below; left = rw za (and_left (has t u) (has t v) two); right = rw zb (and_right (has t u) (has t v) two) })
      (λ q.
      let p = meets_bit (suc a) (suc b) j l r d q in
      let za : a + suc p.place ≡ suc a + p.place = omega arith in
      let zb : b + suc p.place ≡ suc b + p.place = omega arith in
      record { place = suc p.place; bit = p.bit; inside = omega (arith, p.inside); small = p.small; left = rw za p.left; right = rw zb p.right })

  bit_meets : (a b j : ℕ) (l r : List ℕ) (i t : ℕ) → i < j → has t (get_or l (a + i) 0) ≡ true → has t (get_or r (b + i) 0) ≡ true → meets a b j l r ≡ true
  unfolding meets
  bit_meets a b zero l r i t h p q = absurd (omega arith)
  bit_meets a b (suc j) l r zero t h p q =
      let za : a + 0 ≡ a = omega arith in
      let zb : b + 0 ≡ b = omega arith in
      let two : has t (bit_and (get_or l a 0) (get_or r b 0)) ≡ true = bit_and_lem t (get_or l a 0) (get_or r b 0) ∙ and_both (has t (get_or l a 0)) (has t (get_or r b 0)) (rw za at p) (rw zb at q) in
      let z : eqb (bit_and (get_or l a 0) (get_or r b 0)) 0 ≡ false =
      ne_eqb (bit_and (get_or l a 0) (get_or r b 0)) 0 (λ (e : bit_and (get_or l a 0) (get_or r b 0) ≡ 0). contradiction (sym (bit_zero t) ∙ ap (has t) (sym e) ∙ two)) in
      rw z
  bit_meets a b (suc j) l r (suc i) t h p q =
      let za : a + suc i ≡ suc a + i = omega arith in
      let zb : b + suc i ≡ suc b + i = omega arith in
      rw (bit_meets (suc a) (suc b) j l r i t (omega arith) (rw za at p) (rw zb at q)) (or_true (not (eqb (bit_and (get_or l a 0) (get_or r b 0)) 0)))

  -- ── down ──
  module _ (yeses : List ℕ) (wide : Wide yeses) where
    module _ (x : ℕ) (inx : x < n) where
      back_row_grown : (y j : ℕ) (l : List ℕ) → y + j ≤ n → n * w ≤ length l → Grown (n * w) l (back_row w (x * w) y j yeses l)
      unfolding back_row
      back_row_grown y zero l h r = grown_none
      back_row_grown y (suc j) l h r =
          let g = grown_if (meets (y * w) (x * w) w yeses l) (λ e. bit_grown n w few x y l inx (omega arith) r) in
          grown_then g (back_row_grown (suc y) j (cond (meets (y * w) (x * w) w yeses l) (put (x * w) y l) l) (omega arith) (omega (arith, g.long)))

      back_row_sound : (P : ℕ → ℕ → Type 0) (y j : ℕ) (l : List ℕ) → y + j ≤ n → n * w ≤ length l
          → ((v b : ℕ) → y ≤ v → v < y + j → b < w * 64 → bit_at yeses (v * w) b ≡ true → P x b → P x v) → Sound n w P l → Sound n w P (back_row w (x * w) y j yeses l)
      unfolding back_row
      back_row_sound P y zero l h r f s = s
      back_row_sound P y (suc j) l h r f s =
          let g = grown_if (meets (y * w) (x * w) w yeses l) (λ e. bit_grown n w few x y l inx (omega arith) r) in
          back_row_sound P (suc y) j (cond (meets (y * w) (x * w) w yeses l) (put (x * w) y l) l) (omega arith) (omega (arith, g.long)) (λ v b a c. f v b (omega arith) (omega arith))
          (sound_if n w P l (put (x * w) y l) (meets (y * w) (x * w) w yeses l)
          (λ e.
          let p = meets_bit (y * w) (x * w) w yeses l wide e in
          let i = p.place in
          let t = p.bit in
          let hi : i < w = p.inside in
          let ht : t < 64 = p.small in
          let q : (i * 64 + t) / 64 ≡ i = omega arith in
          let m : (i * 64 + t) % 64 ≡ t = omega arith in
          put_sound n w P l r s x y inx (omega arith)
          (f y (i * 64 + t) (omega arith) (omega arith) (omega arith) (rw (q, m) p.left) (s x (i * 64 + t) inx (omega arith) (rw (q, m) p.right))))
          s)

      back_row_set : (y j : ℕ) (l : List ℕ) → y + j ≤ n → n * w ≤ length l → (v b : ℕ) → y ≤ v → v < y + j → b < w * 64 → bit_at yeses (v * w) b ≡ true → bit_at l (x * w) b ≡ true
          → bit_at (back_row w (x * w) y j yeses l) (x * w) v ≡ true
      unfolding back_row
      back_row_set y zero l h r v b i k g c e = absurd (omega arith)
      back_row_set y (suc j) l h r v b i k g c e = at (ℕ_discrete v y)
          (λ f.
          let t = grown_if (meets (y * w) (x * w) w yeses l) (λ q. bit_grown n w few x y l inx (omega arith) r) in
          back_row_set (suc y) j (cond (meets (y * w) (x * w) w yeses l) (put (x * w) y l) l) (omega arith) (omega (arith, t.long)) v b (omega arith) (omega arith) g c (still t (x * w) b e))
        where
          next : List ℕ
          next = cond (meets (y * w) (x * w) w yeses l) (put (x * w) y l) l

          at : Dec (v ≡ y) → ((v ≡ y → ⊥) → bit_at (back_row w (x * w) (suc y) j yeses next) (x * w) v ≡ true) → bit_at (back_row w (x * w) (suc y) j yeses next) (x * w) v ≡ true
          at (yes d) f =
              let t = grown_if (meets (y * w) (x * w) w yeses l) (λ q. bit_grown n w few x y l inx (omega arith) r) in
              let c2 : bit_at yeses (y * w) b ≡ true = rw d at c in
              let m : meets (y * w) (x * w) w yeses l ≡ true = bit_meets (y * w) (x * w) w yeses l (b / 64) (b % 64) (omega arith) c2 e in
              let z : bit_at next (x * w) y ≡ true = rw m (put_same n w l r x y inx (omega arith)) in
              rw d (still (back_row_grown (suc y) j next (omega arith) (omega (arith, t.long))) (x * w) y z)
          at (no d) f = f d

    module _ (o k : ℕ) (kinds : o + k ≤ n) where
      pub back_grown : (x j : ℕ) (l : List ℕ) → x + j ≤ n → n * w ≤ length l → Grown (n * w) l (back w o k x j yeses l)
      unfolding back
      back_grown x zero l h r = grown_none
      back_grown x (suc j) l h r =
          let g = back_row_grown x (omega arith) o k l kinds r in
          grown_then g (back_grown (suc x) j (back_row w (x * w) o k yeses l) (omega arith) (omega (arith, g.long)))

      pub back_sound : (P : ℕ → ℕ → Type 0) (x j : ℕ) (l : List ℕ) → x + j ≤ n → n * w ≤ length l
          → ((u v b : ℕ) → u < n → o ≤ v → v < o + k → b < w * 64 → bit_at yeses (v * w) b ≡ true → P u b → P u v) → Sound n w P l → Sound n w P (back w o k x j yeses l)
      unfolding back
      back_sound P x zero l h r f s = s
      back_sound P x (suc j) l h r f s =
          let g = back_row_grown x (omega arith) o k l kinds r in
          back_sound P (suc x) j (back_row w (x * w) o k yeses l) (omega arith) (omega (arith, g.long)) f
          (back_row_sound x (omega arith) P o k l kinds r (λ v b. f x v b (omega arith)) s)

      -- Row u has each kind whose yes row has a bit that it had.
      pub back_set : (x j : ℕ) (l : List ℕ) → x + j ≤ n → n * w ≤ length l → (u v b : ℕ) → x ≤ u → u < x + j → o ≤ v → v < o + k → b < w * 64
          → bit_at yeses (v * w) b ≡ true → bit_at l (u * w) b ≡ true → bit_at (back w o k x j yeses l) (u * w) v ≡ true
      unfolding back
      back_set x zero l h r u v b i m p q g c e = absurd (omega arith)
      back_set x (suc j) l h r u v b i m p q g c e = at (ℕ_discrete u x)
          (λ f.
          let t = back_row_grown x (omega arith) o k l kinds r in
          back_set (suc x) j (back_row w (x * w) o k yeses l) (omega arith) (omega (arith, t.long)) u v b (omega arith) (omega arith) p q g c (still t (u * w) b e))
        where
          at : Dec (u ≡ x) → ((u ≡ x → ⊥) → bit_at (back w o k (suc x) j yeses (back_row w (x * w) o k yeses l)) (u * w) v ≡ true)
              → bit_at (back w o k (suc x) j yeses (back_row w (x * w) o k yeses l)) (u * w) v ≡ true
          at (yes d) f =
              let t = back_row_grown x (omega arith) o k l kinds r in
              rw d
              (still (back_grown (suc x) j (back_row w (x * w) o k yeses l) (omega arith) (omega (arith, t.long))) (x * w) v
              (back_row_set x (omega arith) o k l kinds r v b p q g c (rw d at e)))
          at (no d) f = f d
