-- One level of the distances: after i levels each place is the distance, or there is no way of at most i moves.
use Prim.Native.Nat.{ℕ, suc, ◌≤◌, ◌<◌}
use mathlib.Core.Path.{◌≡◌, refl, sym, ◌∙◌, ap}
use mathlib.Core.Bool.{Bool, true, false, cond, and-eq-true_iff, false≢true}
use mathlib.Core.List.{List, [], ◌∷◌, Memᴰ}
use native.Mathlib.Omega.{arith}
use native.Mathlib.Decide.{ℕ_discrete}
use lib.Dec.{eqb}
use lib.ListN.{length, get_or, set, length-set}
use lib.Seq.{get_or-set_same, get_or-set_other}
use borrow.Author.Tests.{eqb-true, eq-eqb}
use Rattle.theory.specs.Reasons.{Route, never}
use Rattle.theory.specs.Searches.{Arc, arc, opens, level}

-- A move of the list leads from a to b.
abbrev pub Among : List Arc → ℕ → ℕ → Type 0
Among l a b = Memᴰ (arc a b) l

-- s is n moves away from the end, and not fewer.
pub record Away (E : ℕ → ℕ → Type 0) (t s n : ℕ) : Type 0 where
  pub way : (p : List ℕ) × Route E t s p × (length p ≡ n)
  pub least : (q : List ℕ) → Route E t s q → n ≤ length q

-- A place after i levels.
pub data PlaceAfter (E : ℕ → ℕ → Type 0) (t i s v : ℕ) : Type 0 where
  known : v ≤ i → Away E t s v → PlaceAfter E t i s v
  unknown : v ≡ never → ((q : List ℕ) → Route E t s q → i < length q) → PlaceAfter E t i s v

-- A place within a level: as before, or the new distance.
data Mid (E : ℕ → ℕ → Type 0) (t i s v : ℕ) : Type 0 where
  settled : PlaceAfter E t i s v → Mid E t i s v
  fresh : v ≡ suc i → Away E t s (suc i) → Mid E t i s v

-- All places below m after i levels.
abbrev pub PlacesAfter : (ℕ → ℕ → Type 0) → ℕ → ℕ → ℕ → List ℕ → Type 0
PlacesAfter E t m i d = (s : ℕ) → s < m → PlaceAfter E t i s (get_or d s never)

-- What one move does to the places.
abbrev pub stepped : ℕ → Arc → List ℕ → List ℕ
stepped i e d = cond (opens i e d) (set d e.from (suc i)) d

pub opens_to : (i : ℕ) (e : Arc) (d : List ℕ) → opens i e d ≡ true → get_or d e.to never ≡ i
opens_to i e d q = eqb-true _ _ ((and-eq-true_iff (eqb (get_or d e.to never) i) (eqb (get_or d e.from never) never)).0 q).0

pub opens_from : (i : ℕ) (e : Arc) (d : List ℕ) → opens i e d ≡ true → get_or d e.from never ≡ never
opens_from i e d q = eqb-true _ _ ((and-eq-true_iff (eqb (get_or d e.to never) i) (eqb (get_or d e.from never) never)).0 q).1

pub step_length : (i : ℕ) (e : Arc) (d : List ℕ) → length (stepped i e d) ≡ length d
step_length i e d = go (opens i e d)
  where
    go : (x : Bool) → length (cond x (set d e.from (suc i)) d) ≡ length d
    go true = length-set d e.from (suc i)
    go false = refl

pub level_length : (i : ℕ) (l : List Arc) (d : List ℕ) → length (level i l d) ≡ length d
unfolding level
level_length i [] d = refl
level_length i (e ∷ l) d = level_length i l (stepped i e d) ∙ step_length i e d

-- a place that has a distance keeps it
kept_by_set : (x : Bool) (d : List ℕ) (a v s : ℕ) → (x ≡ true → get_or d a never ≡ never) → (get_or d s never ≡ never → ⊥) → get_or (cond x (set d a v) d) s never ≡ get_or d s never
kept_by_set false d a v s h n = refl
kept_by_set true d a v s h n = pick (ℕ_discrete s a)
  where
    pick : Dec (s ≡ a) → get_or (set d a v) s never ≡ get_or d s never
    pick (yes e) = absurd (n (rw e (h refl)))
    pick (no e) = get_or-set_other d a s v never e

step_keeps : (i : ℕ) (e : Arc) (d : List ℕ) (s : ℕ) → (get_or d s never ≡ never → ⊥) → get_or (stepped i e d) s never ≡ get_or d s never
step_keeps i e d s n = kept_by_set (opens i e d) d e.from (suc i) s (opens_from i e d) n

level_keeps : (i : ℕ) (l : List Arc) (d : List ℕ) (s : ℕ) → (get_or d s never ≡ never → ⊥) → get_or (level i l d) s never ≡ get_or d s never
unfolding level
level_keeps i [] d s n = refl
level_keeps i (e ∷ l) d s n = let q = step_keeps i e d s n in level_keeps i l (stepped i e d) s (λ h. n (sym q ∙ h)) ∙ q

module _ (E : ℕ → ℕ → Type 0) (t m i : ℕ) (hi : suc i < never) where
  abbrev Mids : List ℕ → Type 0
  Mids d = (s : ℕ) → s < m → Mid E t i s (get_or d s never)

  at_level : (s v : ℕ) → v ≡ i → Mid E t i s v → Away E t s i
  at_level s v e (settled (known h a)) = rw e at a
  at_level s v e (settled (unknown q h)) = absurd (omega arith)
  at_level s v e (fresh q a) = absurd (omega arith)

  at_never : (s v : ℕ) → v ≡ never → Mid E t i s v → (q : List ℕ) → Route E t s q → i < length q
  at_never s v e (settled (known h a)) = absurd (omega arith)
  at_never s v e (settled (unknown q h)) = h
  at_never s v e (fresh q a) = absurd (omega arith)

  one_more : (a b : ℕ) → E a b → Away E t b i → ((q : List ℕ) → Route E t a q → i < length q) → Away E t a (suc i)
  one_more a b e w h = record { way = (b ∷ w.way.0, (e, w.way.1), ap suc w.way.2); least = h }

  set_mids : (x : Bool) (d : List ℕ) (a : ℕ) → a < length d → Mids d → (x ≡ true → Away E t a (suc i)) → Mids (cond x (set d a (suc i)) d)
  set_mids false d a la w v s h = w s h
  set_mids true d a la w v s h = pick (ℕ_discrete s a)
    where
      pick : Dec (s ≡ a) → Mid E t i s (get_or (set d a (suc i)) s never)
      pick (yes e) = rw e (rw (get_or-set_same d a (suc i) never la) (fresh refl (v refl)))
      pick (no e) = rw (get_or-set_other d a s (suc i) never e) (w s h)

  -- the moves listed are moves between the places
  abbrev Between : List Arc → Type 0
  Between l = (e : Arc) → Memᴰ e l → E e.from e.to × (e.from < m) × (e.to < m)

  level_mids : (l : List Arc) (d : List ℕ) → length d ≡ m → Between l → Mids d → Mids (level i l d)
  unfolding level
  level_mids [] d le g w = w
  level_mids (e ∷ l) d le g w =
      let (r, hf, ht) = g e (Memᴰ.head refl) in
      level_mids l (stepped i e d) (step_length i e d ∙ le) (λ f z. g f (Memᴰ.tail z))
      (set_mids (opens i e d) d e.from (omega arith) w
      (λ q. one_more e.from e.to r (at_level e.to _ (opens_to i e d q) (w e.to ht)) (at_never e.from _ (opens_from i e d q) (w e.from hf))))

  -- a move to a state at distance i leaves the state that it comes from with a distance
  now_set : (x : Bool) (d : List ℕ) (a : ℕ) → a < length d → (x ≡ false → get_or d a never ≡ never → ⊥) → get_or (cond x (set d a (suc i)) d) a never ≡ never → ⊥
  now_set true d a la h e = let q = get_or-set_same d a (suc i) never la in absurd (omega arith)
  now_set false d a la h e = h refl e

  not_open : (e : Arc) (d : List ℕ) → get_or d e.to never ≡ i → opens i e d ≡ false → get_or d e.from never ≡ never → ⊥
  not_open e d a q b = false≢true (sym q ∙ (and-eq-true_iff _ _).1 (eq-eqb _ _ a, eq-eqb _ _ b))

  closes : (l : List Arc) (d : List ℕ) → length d ≡ m → Between l → (e : Arc) → Memᴰ e l → get_or d e.to never ≡ i → get_or (level i l d) e.from never ≡ never → ⊥
  unfolding level
  closes l d le g e q a z = at l d le g q a z
    where
      at : (l : List Arc) (d : List ℕ) → length d ≡ m → Between l → Memᴰ e l → get_or d e.to never ≡ i → get_or (level i l d) e.from never ≡ never → ⊥
      at l d le g (Memᴰ.head {x = x} {xs = xs} q) a z =
          let (r, hf, ht) = g e (Memᴰ.head q) in
          let h : get_or (stepped i x d) e.from never ≡ never → ⊥ = rw (← q) (now_set (opens i e d) d e.from (omega arith) (not_open e d a)) in
          h (sym (level_keeps i xs (stepped i x d) e.from h) ∙ z)
      at l d le g (Memᴰ.tail {x = x} {xs = xs} y) a z =
          at xs (stepped i x d) (step_length i x d ∙ le) (λ f v. g f (Memᴰ.tail v)) y (step_keeps i x d e.to (λ h. omega arith) ∙ a) z

  module _ (l : List Arc) (d : List ℕ) (le : length d ≡ m) (g : Between l) (listed : (a b : ℕ) → E a b → Among l a b) (tab : PlacesAfter E t m i d) where
    deeper : (s b : ℕ) (q : List ℕ) → get_or (level i l d) s never ≡ never → ((q : List ℕ) → Route E t s q → i < length q) → E s b → Route E t b q → length q ≡ i
        → PlaceAfter E t i b (get_or d b never) → ⊥
    deeper s b q z h e r k (unknown v o) = omega (arith, o q r)
    deeper s b q z h e r k (known v w) = pick (ℕ_discrete (get_or d b never) i)
      where
        pick : Dec (get_or d b never ≡ i) → ⊥
        pick (yes y) = closes l d le g (arc s b) (listed s b e) y z
        pick (no y) = omega (arith, w.least q r, h (b ∷ w.way.0) (e, w.way.1), w.way.2)

    beyond : (s : ℕ) → get_or (level i l d) s never ≡ never → ((q : List ℕ) → Route E t s q → i < length q) → (q : List ℕ) → Route E t s q → suc i < length q
    beyond s z h [] r = absurd (omega (arith, h [] r))
    beyond s z h (b ∷ q) r = pick (ℕ_discrete (length q) i)
      where
        pick : Dec (length q ≡ i) → suc i < suc (length q)
        pick (yes y) = absurd (deeper s b q z h r.0 r.1 y (tab b (g (arc s b) (listed s b r.0)).2))
        pick (no y) = omega (arith, h (b ∷ q) r)

    finish : (s : ℕ) → Mid E t i s (get_or (level i l d) s never) → PlaceAfter E t (suc i) s (get_or (level i l d) s never)
    finish s (settled (known h w)) = known (omega arith) w
    finish s (settled (unknown z h)) = unknown z (beyond s z h)
    finish s (fresh q w) = known (omega arith) (rw q w)

    -- A table of i levels becomes one of i + 1 by a level.
    pub level_places : PlacesAfter E t m (suc i) (level i l d)
    level_places s h = finish s (level_mids l d le g (λ s h. settled (tab s h)) s h)
