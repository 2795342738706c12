-- The bits of kinds and links, in the terms of the code.
use Prim.Native.Nat.{ℕ, suc, ◌+◌, ◌-◌, ◌*◌, ◌/◌, ◌≤◌, ◌<◌}
use mathlib.Core.Path.{◌≡◌, refl, sym, ◌∙◌}
use mathlib.Core.Bool.{Bool, true, false}
use mathlib.Core.List.{List, [], ◌∷◌}
use native.Mathlib.Omega.{arith}
use borrow.Author.Tests.{eq-eqb, ne_eqb, lt-ltb, le-ltb}
use lib.ListN.{length, get_or, drop}
use Rattle.theory.specs.Words.{tail_of, head_of, parity}
use Rattle.theory.specs.Origins.{plain_of, chooses, chosen, EndsFrom}
use Rattle.theory.proofs.origins.Folds.{run, fold_go, fold_end}
use Rattle.rows_steps.specs.Rows.{put}
use Rattle.rows_steps.specs.Steps.{kind_bits, is_link, is_links, isnt_link, isnt_links}
use Rattle.rows_steps.proofs.Places.{row_ends}

-- The place of a bit of one of n nodes lies inside the rows.
pub place_below : (n w x y : ℕ) → n ≤ w * 64 → x < n → y < n → x * w + y / 64 < n * w
place_below n w x y f h g = let e = row_ends w x n h in omega arith

-- The same of ends that were computed.
pub place_same : (w z : ℕ) {t h x y : ℕ} → t ≡ x → h ≡ y → x * w + y / 64 < z → t * w + h / 64 < z
place_same w z e f g = rw (e, f) g

-- ── kinds ──
module _ (w n p : ℕ) (l : List ℕ) where
  pub kinds_go : p < n → kind_bits w p (n - p) l ≡ kind_bits w (p + 1) (n - (p + 1)) (put (p * w) p l)
  unfolding kind_bits
  kinds_go h =
      let e : n - p ≡ suc (n - (p + 1)) = omega arith in
      let f : p + 1 ≡ suc p = omega arith in
      rw (e, f)

  pub kinds_end : n ≤ p → kind_bits w p (n - p) l ≡ l
  unfolding kind_bits
  kinds_end h = let e : n - p ≡ 0 = omega arith in rw e

-- ── one link ──
module _ (w v : ℕ) (l : List ℕ) where
  pub is_put : (t h : ℕ) → t ≡ tail_of v → h ≡ head_of v → parity v ≡ 0 → (r : List ℕ) → r ≡ put (t * w) h l → r ≡ is_link w v l
  is_put t h e f p r q = rw (eq-eqb (parity v) 0 p, ← e, ← f) q

  pub is_passed : (parity v ≡ 0 → ⊥) → l ≡ is_link w v l
  is_passed f = rw (ne_eqb (parity v) 0 f)

  module _ (o : ℕ) where
    pub isnt_passed : parity v ≡ 0 → l ≡ isnt_link o w v l
    isnt_passed p = rw (eq-eqb (parity v) 0 p)

    pub isnt_put : (t h : ℕ) → t ≡ tail_of v → h ≡ head_of v → (parity v ≡ 0 → ⊥) → t < o → (r : List ℕ) → r ≡ put (t * w) h l → r ≡ isnt_link o w v l
    isnt_put t h e f p g r q =
        let b : tail_of v < o = omega (arith, e) in
        rw (ne_eqb (parity v) 0 p, lt-ltb (tail_of v) o b, ← e, ← f) q

    pub isnt_both : (t h : ℕ) → t ≡ tail_of v → h ≡ head_of v → (parity v ≡ 0 → ⊥) → o ≤ t → (r s : List ℕ) → r ≡ put (t * w) h l → s ≡ put (h * w) t r → s ≡ isnt_link o w v l
    isnt_both t h e f p g r s q z =
        let b : o ≤ tail_of v = omega (arith, e) in
        rw (ne_eqb (parity v) 0 p, le-ltb (tail_of v) o b, ← e, ← f, ← q) z

-- ── all links ──
pub is_run : (w : ℕ) (ws l : List ℕ) → is_links w ws l ≡ run (is_link w) ws l
unfolding is_links run
is_run w [] l = refl
is_run w (v ∷ ws) l = is_run w ws (is_link w v l)

pub isnt_run : (o w : ℕ) (ws l : List ℕ) → isnt_links o w ws l ≡ run (isnt_link o w) ws l
unfolding isnt_links run
isnt_run o w [] l = refl
isnt_run o w (v ∷ ws) l = isnt_run o w ws (isnt_link o w v l)

-- Both folds: f is one, and g what it does at one word.
module _ (g : ℕ → List ℕ → List ℕ) (f : List ℕ → List ℕ → List ℕ) (is_run : (ws l : List ℕ) → f ws l ≡ run g ws l) (set : ℕ) (ws : List ℕ) (i : ℕ) (l : List ℕ) {c : List ℕ} (rest : c ≡ f (chosen set (drop i ws)) l) where
  -- The loop has come to word i, and the code told whether it is chosen.
  module _ (at : i < length ws) {q : Bool} (told : q ≡ chooses set (get_or ws i 0)) where
    -- It is: the loop goes on from what the plain word made of the rows.
    pub link_chosen : q ≡ true → {v : ℕ} {b : List ℕ} → v ≡ plain_of (get_or ws i 0) → b ≡ g v l → c ≡ f (chosen set (drop (i + 1) ws)) b
    link_chosen t e h = rest ∙ fold_go set g f is_run ws i l at ∙ rw (sym told ∙ t, h, e) refl

    -- It is not: the rows stay.
    pub link_passed : q ≡ false → c ≡ f (chosen set (drop (i + 1) ws)) l
    link_passed t = rest ∙ fold_go set g f is_run ws i l at ∙ rw (sym told ∙ t) refl

  pub links_end : length ws ≤ i → l ≡ c
  links_end h = sym (rest ∙ fold_end set g f is_run ws i l h)

-- The places of a plain word's bits lie inside the rows of n nodes.
pub places : (n w z : ℕ) {u v : ℕ} → EndsFrom n u → v ≡ plain_of u → n ≤ w * 64 → n * w ≤ z
    → (tail_of v * w + head_of v / 64 < z) × (head_of v * w + tail_of v / 64 < z)
places n w z {u} {v} e q few room =
    let t : tail_of v < n = rw q e.ends.tail_in in
    let h : head_of v < n = rw q e.ends.head_in in
    (omega (arith, place_below n w (tail_of v) (head_of v) few t h), omega (arith, place_below n w (head_of v) (tail_of v) few h t))
