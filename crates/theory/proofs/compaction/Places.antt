-- A list without one place, place by place.
use Prim.Native.Nat.{ℕ, suc, ◌+◌, ◌-◌, ◌≤◌, ◌<◌}
use mathlib.Core.Path.{◌≡◌, subst, sym, ◌∙◌}
use mathlib.Core.List.{List, Memᴰ}
use native.Mathlib.Omega.{arith}
use native.Mathlib.Decide.{dec_lt}
use lib.ListN.{length, get_or, take, drop, length-append, length-drop, get_or-append}
use lib.Seq.{length-take-le, get_or-take, get_or-drop, get_or-append-add}
use Rattle.theory.proofs.Inside.{at_member}
use Rattle.theory.specs.Compaction.{without}

-- A member stands at some place.
pub member_at : (w : ℕ) (l : List ℕ) → Memᴰ w l → (u : ℕ) × (u < length l) × (get_or l u 0 ≡ w)
member_at w l (Memᴰ.head {x = x} {xs = xs} e) = (0, omega arith, sym e)
member_at w l (Memᴰ.tail {x = x} {xs = xs} m) = let (u, h, e) = member_at w xs m in (suc u, omega arith, e)

module _ (i : ℕ) (l : List ℕ) (h : i < length l) where
  front : length (take i l) ≡ i
  front = length-take-le i l (omega arith)

  pub without_long : length (without i l) ≡ length l - 1
  without_long = omega (arith, length-append (take i l) (drop (suc i) l), front, length-drop (suc i) l)

  pub without_below : (u : ℕ) → u < i → get_or (without i l) u 0 ≡ get_or l u 0
  without_below u g = get_or-append (take i l) (drop (suc i) l) 0 u (omega (arith, front)) ∙ get_or-take i l u 0 g

  pub without_above : (u : ℕ) → i ≤ u → get_or (without i l) u 0 ≡ get_or l (suc u) 0
  without_above u g =
      let e : length (take i l) + (u - i) ≡ u = omega (arith, front) in
      let d : suc i + (u - i) ≡ suc u = omega arith in
      let a = get_or-append-add (take i l) (drop (suc i) l) (u - i) 0 in
      let b = get_or-drop (suc i) l (u - i) 0 in
      rw e at (a ∙ rw d at b)

  -- A word elsewhere in the list is still there.
  pub still_there : (u : ℕ) → u < length l → (u ≡ i → ⊥) → Memᴰ (get_or l u 0) (without i l)
  still_there u g n = pick (dec_lt u i)
    where
      pick : Dec (u < i) → Memᴰ (get_or l u 0) (without i l)
      pick (yes q) = subst (λ (v : ℕ). Memᴰ v (without i l)) (without_below u q) (at_member (without i l) u (omega (arith, without_long)))
      pick (no q) =
          let e : suc (u - 1) ≡ u = omega arith in
          let a : get_or (without i l) (u - 1) 0 ≡ get_or l u 0 = rw e at (without_above (u - 1) (omega arith)) in
          subst (λ (v : ℕ). Memᴰ v (without i l)) a (at_member (without i l) (u - 1) (omega (arith, without_long)))

  -- What is there stands elsewhere in the list.
  pub stands_elsewhere : (w : ℕ) → Memᴰ w (without i l) → (u : ℕ) × (u < length l) × (u ≡ i → ⊥) × (get_or l u 0 ≡ w)
  stands_elsewhere w m = let (u, g, e) = member_at w (without i l) m in pick u g e (dec_lt u i)
    where
      pick : (u : ℕ) → u < length (without i l) → get_or (without i l) u 0 ≡ w → Dec (u < i) → (u : ℕ) × (u < length l) × (u ≡ i → ⊥) × (get_or l u 0 ≡ w)
      pick u g e (yes q) = (u, omega (arith, without_long), (λ (z : u ≡ i). omega arith), sym (without_below u q) ∙ e)
      pick u g e (no q) = (suc u, omega (arith, without_long), (λ (z : suc u ≡ i). omega arith), sym (without_above u (omega arith)) ∙ e)

  -- So it is one of the list's.
  pub without_among : (w : ℕ) → Memᴰ w (without i l) → Memᴰ w l
  without_among w m = let (u, g, n, e) = stands_elsewhere w m in subst (λ (v : ℕ). Memᴰ v l) e (at_member l u g)

-- Without two places, the second further on: what is left is among what is left without the second alone.
pub without_both : (i j : ℕ) (l : List ℕ) → i ≤ j → suc j < length l → (w : ℕ) → Memᴰ w (without j (without i l)) → Memᴰ w (without (suc j) l)
without_both i j l h g w m =
    let a = without_long i l (omega arith) in
    let (u, p, n, e) = stands_elsewhere j (without i l) (omega arith) w m in
    pick a u p n e (dec_lt u i)
  where
    pick : length (without i l) ≡ length l - 1 → (u : ℕ) → u < length (without i l) → (u ≡ j → ⊥) → get_or (without i l) u 0 ≡ w → Dec (u < i) → Memᴰ w (without (suc j) l)
    pick a u p n e (yes q) =
        subst (λ (v : ℕ). Memᴰ v (without (suc j) l)) (sym (without_below i l (omega arith) u q) ∙ e) (still_there (suc j) l g u (omega arith) (λ (z : u ≡ suc j). omega arith))
    pick a u p n e (no q) =
        subst (λ (v : ℕ). Memᴰ v (without (suc j) l)) (sym (without_above i l (omega arith) u (omega arith)) ∙ e)
        (still_there (suc j) l g (suc u) (omega arith) (λ (z : suc u ≡ suc j). n (omega arith)))
