-- The bits of the kinds and of the links: they are set, and no others are.
use Prim.Native.Nat.{ℕ, zero, suc, ◌+◌, ◌*◌, ◌%◌, ◌≤◌, ◌<◌}
use mathlib.Core.Path.{◌≡◌, refl, sym, ap, ◌∙◌}
use mathlib.Core.Bool.{Bool, true, false, cond}
use mathlib.Core.List.{List, [], ◌∷◌, Memᴰ}
use native.Mathlib.Omega.{arith}
use native.Mathlib.Decide.{ℕ_discrete}
use borrow.Author.Tests.{eqb-true, eqb-false, eq-eqb, ne_eqb, ltb-false, le-ltb}
use lib.Dec.{eqb, ltb}
use lib.ListN.{length}
use Rattle.theory.specs.Words.{tail_of, head_of, parity}
use Rattle.theory.specs.Inside.{Ends, Inside}
use Rattle.theory.proofs.Inside.{inside_first, inside_rest}
use Rattle.theory.specs.Rows.{bit_at}
use Rattle.rows_steps.specs.Rows.{put}
use Rattle.rows_steps.specs.Steps.{kind_bits, is_link, is_links, isnt_link, isnt_links}
use Rattle.rows_steps.proofs.Grown.{Grown, grown_none, grown_then, grown_if, put_grown}
use Rattle.rows_steps.proofs.Places.{row_ends, put_same}
use Rattle.rows_steps.proofs.Sound.{Sound, still, put_sound, sound_if}

module _ (n w : ℕ) (few : n ≤ w * 64) where
  -- A bit of one of n nodes, in the row of one of them.
  pub bit_grown : (x y : ℕ) (l : List ℕ) → x < n → y < n → n * w ≤ length l → Grown (n * w) l (put (x * w) y l)
  bit_grown x y l h g r = let e = row_ends w x n h in put_grown (n * w) (x * w) y l (omega arith) r

  -- ── kinds ──
  pub kinds_grown : (p j : ℕ) (l : List ℕ) → p + j ≤ n → n * w ≤ length l → Grown (n * w) l (kind_bits w p j l)
  unfolding kind_bits
  kinds_grown p zero l h r = grown_none
  kinds_grown p (suc j) l h r =
      let g = bit_grown p p l (omega arith) (omega arith) r in
      grown_then g (kinds_grown (suc p) j (put (p * w) p l) (omega arith) (omega (arith, g.long)))

  pub kinds_sound : (P : ℕ → ℕ → Type 0) (p j : ℕ) (l : List ℕ) → p + j ≤ n → n * w ≤ length l → ((q : ℕ) → p ≤ q → q < p + j → P q q) → Sound n w P l
      → Sound n w P (kind_bits w p j l)
  unfolding kind_bits
  kinds_sound P p zero l h r f s = s
  kinds_sound P p (suc j) l h r f s =
      let g = bit_grown p p l (omega arith) (omega arith) r in
      kinds_sound P (suc p) j (put (p * w) p l) (omega arith) (omega (arith, g.long)) (λ q a b. f q (omega arith) (omega arith))
      (put_sound n w P l r s p p (omega arith) (omega arith) (f p (omega arith) (omega arith)))

  pub kinds_set : (p j : ℕ) (l : List ℕ) → p + j ≤ n → n * w ≤ length l → (q : ℕ) → p ≤ q → q < p + j → bit_at (kind_bits w p j l) (q * w) q ≡ true
  unfolding kind_bits
  kinds_set p zero l h r q a b = absurd (omega arith)
  kinds_set p (suc j) l h r q a b = at (ℕ_discrete q p) (λ f. kinds_set (suc p) j (put (p * w) p l) (omega arith) (omega (arith, grown.long)) q (omega arith) (omega arith))
    where
      grown : Grown (n * w) l (put (p * w) p l)
      grown = bit_grown p p l (omega arith) (omega arith) r

      at : Dec (q ≡ p) → ((q ≡ p → ⊥) → bit_at (kind_bits w (suc p) j (put (p * w) p l)) (q * w) q ≡ true) → bit_at (kind_bits w (suc p) j (put (p * w) p l)) (q * w) q ≡ true
      at (yes e) f = rw e (still (kinds_grown (suc p) j (put (p * w) p l) (omega arith) (omega (arith, grown.long))) (p * w) p (put_same n w l r p p (omega arith) (omega arith)))
      at (no d) f = f d

  -- ── → links ──
  is_grown : (v : ℕ) (l : List ℕ) → Ends n v → n * w ≤ length l → Grown (n * w) l (is_link w v l)
  is_grown v l e r = grown_if (eqb (parity v) 0) (λ q. bit_grown (tail_of v) (head_of v) l e.tail_in e.head_in r)

  pub is_links_grown : (vs : List ℕ) (l : List ℕ) → Inside n vs → n * w ≤ length l → Grown (n * w) l (is_links w vs l)
  unfolding is_links
  is_links_grown [] l i r = grown_none
  is_links_grown (v ∷ vs) l i r =
      let g = is_grown v l (inside_first i) r in
      grown_then g (is_links_grown vs (is_link w v l) (inside_rest i) (omega (arith, g.long)))

  pub is_links_sound : (P : ℕ → ℕ → Type 0) (vs : List ℕ) (l : List ℕ) → Inside n vs → n * w ≤ length l
      → ((v : ℕ) → Memᴰ v vs → parity v ≡ 0 → P (tail_of v) (head_of v)) → Sound n w P l → Sound n w P (is_links w vs l)
  unfolding is_links
  is_links_sound P [] l i r f s = s
  is_links_sound P (v ∷ vs) l i r f s =
      let g = is_grown v l (inside_first i) r in
      let e = inside_first i in
      is_links_sound P vs (is_link w v l) (inside_rest i) (omega (arith, g.long)) (λ u m. f u (Memᴰ.tail m))
      (sound_if n w P l (put (tail_of v * w) (head_of v) l) (eqb (parity v) 0)
      (λ q. put_sound n w P l r s (tail_of v) (head_of v) e.tail_in (omega (arith, e.head_in)) (f v (Memᴰ.head refl) (eqb-true (parity v) 0 q))) s)

  pub is_links_set : (vs : List ℕ) (l : List ℕ) → Inside n vs → n * w ≤ length l
      → (v : ℕ) → Memᴰ v vs → parity v ≡ 0 → bit_at (is_links w vs l) (tail_of v * w) (head_of v) ≡ true
  unfolding is_links
  is_links_set [] l i r v m q = elim m [ ]
  is_links_set (u ∷ vs) l i r v (Memᴰ.head e) q =
      let g = is_grown u l (inside_first i) r in
      let d = inside_first i in
      let b : bit_at (is_link w u l) (tail_of u * w) (head_of u) ≡ true =
      let z : eqb (parity u) 0 ≡ true = eq-eqb (parity u) 0 (ap parity (sym e) ∙ q) in
      rw z (put_same n w l r (tail_of u) (head_of u) d.tail_in (omega (arith, d.head_in))) in
      rw e (still (is_links_grown vs (is_link w u l) (inside_rest i) (omega (arith, g.long))) (tail_of u * w) (head_of u) b)
  is_links_set (u ∷ vs) l i r v (Memᴰ.tail m) q =
      let g = is_grown u l (inside_first i) r in
      is_links_set vs (is_link w u l) (inside_rest i) (omega (arith, g.long)) v m q

  -- ── ↛ links ──
  -- The head in the tail's row, and then the tail in the head's.
  abbrev here : ℕ → List ℕ → List ℕ
  here v l = put (tail_of v * w) (head_of v) l

  abbrev both : ℕ → List ℕ → List ℕ
  both v l = put (head_of v * w) (tail_of v) (here v l)

  here_grown : (v : ℕ) (l : List ℕ) → Ends n v → n * w ≤ length l → Grown (n * w) l (here v l)
  here_grown v l e r = bit_grown (tail_of v) (head_of v) l e.tail_in e.head_in r

  back_grown : (v : ℕ) (l : List ℕ) → Ends n v → n * w ≤ length l → Grown (n * w) (here v l) (both v l)
  back_grown v l e r = bit_grown (head_of v) (tail_of v) (here v l) e.head_in e.tail_in (omega (arith, (here_grown v l e r).long))

  module _ (o : ℕ) where
    isnt_grown : (v : ℕ) (l : List ℕ) → Ends n v → n * w ≤ length l → Grown (n * w) l (isnt_link o w v l)
    isnt_grown v l e r = at (eqb (parity v) 0) (ltb (tail_of v) o)
      where
        at : (p q : Bool) → Grown (n * w) l (cond p l (cond q (here v l) (both v l)))
        at true q = grown_none
        at false true = here_grown v l e r
        at false false = grown_then (here_grown v l e r) (back_grown v l e r)

    pub isnt_links_grown : (vs : List ℕ) (l : List ℕ) → Inside n vs → n * w ≤ length l → Grown (n * w) l (isnt_links o w vs l)
    unfolding isnt_links
    isnt_links_grown [] l i r = grown_none
    isnt_links_grown (v ∷ vs) l i r =
        let g = isnt_grown v l (inside_first i) r in
        grown_then g (isnt_links_grown vs (isnt_link o w v l) (inside_rest i) (omega (arith, g.long)))

    module _ (P : ℕ → ℕ → Type 0) where
      isnt_sound : (v : ℕ) (l : List ℕ) → Ends n v → n * w ≤ length l
          → (parity v ≡ 1 → P (tail_of v) (head_of v)) → (parity v ≡ 1 → o ≤ tail_of v → P (head_of v) (tail_of v)) → Sound n w P l → Sound n w P (isnt_link o w v l)
      isnt_sound v l e r f g s = at (eqb (parity v) 0) (ltb (tail_of v) o) refl refl
        where
          first : parity v ≡ 1 → Sound n w P (here v l)
          first q = put_sound n w P l r s (tail_of v) (head_of v) e.tail_in (omega (arith, e.head_in)) (f q)

          odd : eqb (parity v) 0 ≡ false → parity v ≡ 1
          odd q = let h : v % 2 ≡ 0 → ⊥ = eqb-false (v % 2) 0 q in omega arith

          at : (p q : Bool) → eqb (parity v) 0 ≡ p → ltb (tail_of v) o ≡ q → Sound n w P (cond p l (cond q (here v l) (both v l)))
          at true q a b = s
          at false true a b = first (odd a)
          at false false a b =
              put_sound n w P (here v l) (omega (arith, (here_grown v l e r).long)) (first (odd a)) (head_of v) (tail_of v) e.head_in (omega (arith, e.tail_in))
              (g (odd a) (ltb-false (tail_of v) o b))

      pub isnt_links_sound : (vs : List ℕ) (l : List ℕ) → Inside n vs → n * w ≤ length l
          → ((v : ℕ) → Memᴰ v vs → parity v ≡ 1 → P (tail_of v) (head_of v))
          → ((v : ℕ) → Memᴰ v vs → parity v ≡ 1 → o ≤ tail_of v → P (head_of v) (tail_of v)) → Sound n w P l → Sound n w P (isnt_links o w vs l)
      unfolding isnt_links
      isnt_links_sound [] l i r f g s = s
      isnt_links_sound (v ∷ vs) l i r f g s =
          let e = isnt_grown v l (inside_first i) r in
          isnt_links_sound vs (isnt_link o w v l) (inside_rest i) (omega (arith, e.long)) (λ u m. f u (Memᴰ.tail m)) (λ u m. g u (Memᴰ.tail m))
          (isnt_sound v l (inside_first i) r (f v (Memᴰ.head refl)) (g v (Memᴰ.head refl)) s)

    isnt_set : (v : ℕ) (l : List ℕ) → Ends n v → n * w ≤ length l → parity v ≡ 1 → bit_at (isnt_link o w v l) (tail_of v * w) (head_of v) ≡ true
    isnt_set v l e r p = at (eqb (parity v) 0) (ltb (tail_of v) o) (ne_eqb (parity v) 0 (λ (q : parity v ≡ 0). omega arith))
      where
        first : bit_at (here v l) (tail_of v * w) (head_of v) ≡ true
        first = put_same n w l r (tail_of v) (head_of v) e.tail_in (omega (arith, e.head_in))

        at : (p q : Bool) → p ≡ false → bit_at (cond p l (cond q (here v l) (both v l))) (tail_of v * w) (head_of v) ≡ true
        at p true a = rw a first
        at p false a = rw a (still (back_grown v l e r) (tail_of v * w) (head_of v) first)

    isnt_set_back : (v : ℕ) (l : List ℕ) → Ends n v → n * w ≤ length l → parity v ≡ 1 → o ≤ tail_of v → bit_at (isnt_link o w v l) (head_of v * w) (tail_of v) ≡ true
    isnt_set_back v l e r p h =
        let a : eqb (parity v) 0 ≡ false = ne_eqb (parity v) 0 (λ (q : parity v ≡ 0). omega arith) in
        let b : ltb (tail_of v) o ≡ false = le-ltb (tail_of v) o h in
        rw (a, b) (put_same n w (here v l) (omega (arith, (here_grown v l e r).long)) (head_of v) (tail_of v) e.head_in (omega (arith, e.tail_in)))

    pub isnt_links_set : (vs : List ℕ) (l : List ℕ) → Inside n vs → n * w ≤ length l
        → (v : ℕ) → Memᴰ v vs → parity v ≡ 1 → bit_at (isnt_links o w vs l) (tail_of v * w) (head_of v) ≡ true
    unfolding isnt_links
    isnt_links_set [] l i r v m q = elim m [ ]
    isnt_links_set (u ∷ vs) l i r v (Memᴰ.head e) q =
        let g = isnt_grown u l (inside_first i) r in
        rw e (still (isnt_links_grown vs (isnt_link o w u l) (inside_rest i) (omega (arith, g.long))) (tail_of u * w) (head_of u) (isnt_set u l (inside_first i) r (ap parity (sym e) ∙ q)))
    isnt_links_set (u ∷ vs) l i r v (Memᴰ.tail m) q =
        let g = isnt_grown u l (inside_first i) r in
        isnt_links_set vs (isnt_link o w u l) (inside_rest i) (omega (arith, g.long)) v m q

    pub isnt_links_set_back : (vs : List ℕ) (l : List ℕ) → Inside n vs → n * w ≤ length l
        → (v : ℕ) → Memᴰ v vs → parity v ≡ 1 → o ≤ tail_of v → bit_at (isnt_links o w vs l) (head_of v * w) (tail_of v) ≡ true
    unfolding isnt_links
    isnt_links_set_back [] l i r v m q h = elim m [ ]
    isnt_links_set_back (u ∷ vs) l i r v (Memᴰ.head e) q h =
        let g = isnt_grown u l (inside_first i) r in
        rw e
        (still (isnt_links_grown vs (isnt_link o w u l) (inside_rest i) (omega (arith, g.long))) (head_of u * w) (tail_of u)
        (isnt_set_back u l (inside_first i) r (ap parity (sym e) ∙ q) (rw e at h)))
    isnt_links_set_back (u ∷ vs) l i r v (Memᴰ.tail m) q h =
        let g = isnt_grown u l (inside_first i) r in
        isnt_links_set_back vs (isnt_link o w u l) (inside_rest i) (omega (arith, g.long)) v m q h
