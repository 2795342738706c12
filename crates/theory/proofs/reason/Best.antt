-- The descent along right distances is the best route, and no other route is.
use Prim.Native.Nat.{ℕ, zero, suc, ◌≤◌, ◌<◌}
use mathlib.Core.Path.{◌≡◌, refl, sym, ◌∙◌, ap}
use mathlib.Core.Bool.{Bool, true, false, cond, ◌&&◌, and-eq-true_iff, false≢true}
use mathlib.Core.List.Memᴰ
use mathlib.Core.List.{List, [], ◌∷◌}
use mathlib.Core.Logic.{◌⊎◌, inl, inr}
use native.Mathlib.Omega.{arith}
use native.Mathlib.Decide.{dec_lt, ℕ_discrete}
use lib.Dec.{eqb, ltb}
use lib.ListN.{length, get_or}
use borrow.Author.Tests.{eqb-true, eq-eqb, ltb-true, lt-ltb}
use Rattle.theory.specs.Reasons.{Route, Before, Distance, reached, lost, never}
use Rattle.theory.specs.Searches.{Arc, arc, better, next, descend}
use Rattle.theory.proofs.reason.Levels.{Among, Away}

-- A route from s to t that has fewest moves, and is the first of those.
pub record Best (E : ℕ → ℕ → Type 0) (t s : ℕ) (p : List ℕ) : Type 0 where
  pub route : Route E t s p
  pub fewest : (q : List ℕ) → Route E t s q → length p ≤ length q
  pub first : (q : List ℕ) → Route E t s q → length p ≡ length q → Before p q

before_antisym : (p q : List ℕ) → length p ≡ length q → Before p q → Before q p → p ≡ q
before_antisym [] [] e a b = refl
before_antisym [] (y ∷ q) e a b = absurd (omega arith)
before_antisym (x ∷ p) [] e a b = absurd (omega arith)
before_antisym (x ∷ p) (y ∷ q) e a b = both a b (λ i j. before_antisym p q (omega arith) i j)
  where
    both : (x < y) ⊎ ((x ≡ y) × Before p q) → (y < x) ⊎ ((y ≡ x) × Before q p) → (Before p q → Before q p → p ≡ q) → ◌≡◌ {A = List ℕ} (x ∷ p) (y ∷ q)
    both (inl h) (inl g) f = absurd (omega arith)
    both (inl h) (inr g) f = absurd (omega arith)
    both (inr h) (inl g) f = absurd (omega arith)
    both (inr h) (inr g) f = let r = f h.1 g.1 in let u = h.0 in cc

-- There is no second best route.
pub best_unique : (E : ℕ → ℕ → Type 0) (t s : ℕ) (p q : List ℕ) → Best E t s p → Best E t s q → p ≡ q
best_unique E t s p q a b =
    let e : length p ≡ length q = omega (arith, a.fewest q b.route, b.fewest p a.route) in
    before_antisym p q e (a.first q b.route e) (b.first p a.route (sym e))

-- What `next` finds: r is the smallest state at distance i after s, or z where none is smaller.
pub record Next (l : List Arc) (d : List ℕ) (s i z r : ℕ) : Type 0 where
  pub low : r ≤ z
  pub least : (c : ℕ) → Among l s c → get_or d c never ≡ i → r ≤ c
  pub found : (r ≡ z) ⊎ (Among l s r × (get_or d r never ≡ i))

module _ (d : List ℕ) (s i : ℕ) where
  arc_is : (e : Arc) (a b : ℕ) → a ≡ e.from → b ≡ e.to → arc a b ≡ e
  arc_is e a b p q = λ j. record { from = p j; to = q j }

  next_step : (e : Arc) (l : List Arc) (z r : ℕ) (x : Bool) → better e d s i z ≡ x → Next l d s i (cond x e.to z) r → Next (e ∷ l) d s i z r
  next_step e l z r true q k = record { low = omega (arith, at_most, lt); least = λ c m v. least c v (Memᴰ.cases_cons m); found = inr (found k.found) }
    where
      f : e.from ≡ s
      f = eqb-true e.from s ((and-eq-true_iff (eqb e.from s) (eqb (get_or d e.to never) i && ltb e.to z)).0 q).0

      g : (eqb (get_or d e.to never) i ≡ true) × (ltb e.to z ≡ true)
      g = (and-eq-true_iff (eqb (get_or d e.to never) i) (ltb e.to z)).0 ((and-eq-true_iff (eqb e.from s) (eqb (get_or d e.to never) i && ltb e.to z)).0 q).1

      lt : e.to < z
      lt = ltb-true e.to z g.1

      at_most : r ≤ e.to
      at_most = k.low

      least : (c : ℕ) → get_or d c never ≡ i → (arc s c ≡ e) ⊎ Among l s c → r ≤ c
      least c v (inl w) = let u : c ≡ e.to = ap (λ (y : Arc). y.to) w in omega (arith, at_most)
      least c v (inr m) = k.least c m v

      found : (r ≡ e.to) ⊎ (Among l s r × (get_or d r never ≡ i)) → Among (e ∷ l) s r × (get_or d r never ≡ i)
      found (inl w) = (Memᴰ.head (arc_is e s r (sym f) w), rw w (eqb-true (get_or d e.to never) i g.0))
      found (inr m) = (Memᴰ.tail m.0, m.1)
  next_step e l z r false q k = record { low = k.low; least = λ c m v. least c v (Memᴰ.cases_cons m); found = found k.found }
    where
      least : (c : ℕ) → get_or d c never ≡ i → (arc s c ≡ e) ⊎ Among l s c → r ≤ c
      least c v (inr m) = k.least c m v
      least c v (inl w) = pick (dec_lt e.to z)
        where
          u : c ≡ e.to
          u = ap (λ (y : Arc). y.to) w

          pick : Dec (e.to < z) → r ≤ c
          pick (no h) = omega (arith, k.low, u)
          pick (yes h) = absurd (false≢true (sym q ∙ (and-eq-true_iff (eqb e.from s) (eqb (get_or d e.to never) i && ltb e.to z)).1
              (eq-eqb e.from s (sym (ap (λ (y : Arc). y.from) w)), (and-eq-true_iff (eqb (get_or d e.to never) i) (ltb e.to z)).1 (eq-eqb (get_or d e.to never) i (rw (← u) v), lt-ltb e.to z h))))

      found : (r ≡ z) ⊎ (Among l s r × (get_or d r never ≡ i)) → (r ≡ z) ⊎ (Among (e ∷ l) s r × (get_or d r never ≡ i))
      found (inl w) = inl w
      found (inr m) = inr (Memᴰ.tail m.0, m.1)

  pub next_is : (l : List Arc) (z : ℕ) → Next l d s i z (next l d s i z)
  unfolding next
  next_is [] z = record { low = omega arith; least = λ c m v. elim m [ ]; found = inl refl }
  next_is (e ∷ l) z = next_step e l z _ (better e d s i z) refl (next_is l (cond (better e d s i z) e.to z))

pub descend_length : (l : List Arc) (d : List ℕ) (m s i : ℕ) → length (descend l d m s i) ≡ i
unfolding descend
descend_length l d m s zero = refl
descend_length l d m s (suc i) = ap suc (descend_length l d m (next l d s i m) i)

module _ (l : List Arc) (t m : ℕ) (d : List ℕ) (inside : (a b : ℕ) → Among l a b → b < m) (right : (s : ℕ) → s < m → Distance (Among l) t s (get_or d s never)) where
  -- the second state of a shortest route is one move nearer
  nearer : (s b i : ℕ) (q : List ℕ) → Away (Among l) t s (suc i) → Among l s b → Route (Among l) t b q → length q ≡ i → get_or d b never ≡ i
  nearer s b i q w e r k = go (get_or d b never) (right b (inside s b e))
    where
      go : (v : ℕ) → Distance (Among l) t b v → v ≡ i
      go v (reached h p a u f) = omega (arith, f q r, w.least (b ∷ p) (e, a))
      go v (lost h f) = absurd (f q r)

  away_of : (b i : ℕ) → get_or d b never ≡ i → i < never → b < m → Away (Among l) t b i
  away_of b i v hi h = go (get_or d b never) v (right b h)
    where
      go : (u : ℕ) → u ≡ i → Distance (Among l) t b u → Away (Among l) t b i
      go u e (reached g p a k f) = record { way = (p, a, k ∙ e); least = λ q r. omega (arith, f q r) }
      go u e (lost g f) = absurd (omega arith)

  -- the smallest next state exists and is one move nearer
  next_away : (s i : ℕ) → Away (Among l) t s (suc i) → (next l d s i m < m) × Among l s (next l d s i m) × (get_or d (next l d s i m) never ≡ i)
  next_away s i w = start w.way.0 w.way.1 w.way.2
    where
      b : ℕ
      b = next l d s i m

      k : Next l d s i m b
      k = next_is d s i l m

      at : b < m → (b ≡ m) ⊎ (Among l s b × (get_or d b never ≡ i)) → (b < m) × Among l s b × (get_or d b never ≡ i)
      at h (inl e) = absurd (omega arith)
      at h (inr e) = (h, e.0, e.1)

      start : (p : List ℕ) → Route (Among l) t s p → length p ≡ suc i → (b < m) × Among l s b × (get_or d b never ≡ i)
      start [] r e = absurd (omega arith)
      start (c ∷ p) r e = at (omega (arith, k.least c r.0 (nearer s c i p w r.0 r.1 (omega arith)), inside s c r.0)) k.found

  descend_away : (i s : ℕ) → i < never → Away (Among l) t s i → Best (Among l) t s (descend l d m s i)
  unfolding descend
  descend_away zero s hi w = record { route = end w.way.0 w.way.1 w.way.2; fewest = λ q r. omega arith; first = λ q r e. tt }
    where
      end : (p : List ℕ) → Route (Among l) t s p → length p ≡ 0 → s ≡ t
      end [] r e = r
      end (x ∷ p) r e = absurd (omega arith)
  descend_away (suc i) s hi w =
      let (h, e, v) = next_away s i w in
      built e (descend_away i (next l d s i m) (omega arith) (away_of (next l d s i m) i v (omega arith) h))
    where
      b : ℕ
      b = next l d s i m

      -- another route of the same length starts no lower
      behind : Best (Among l) t b (descend l d m b i) → (q : List ℕ) → Route (Among l) t s q → suc (length (descend l d m b i)) ≡ length q → Before (b ∷ descend l d m b i) q
      behind a [] r e = absurd (omega arith)
      behind a (c ∷ q) r e = pick (ℕ_discrete b c)
        where
          pick : Dec (b ≡ c) → (b < c) ⊎ ((b ≡ c) × Before (descend l d m b i) q)
          pick (yes u) = inr (u, a.first q (rw u r.1) (omega arith))
          pick (no u) = inl (omega (arith, (next_is d s i l m).least c r.0 (nearer s c i q w r.0 r.1 (omega (arith, descend_length l d m b i)))))

      built : Among l s b → Best (Among l) t b (descend l d m b i) → Best (Among l) t s (b ∷ descend l d m b i)
      built e a = record { route = (e, a.route); fewest = λ q r. omega (arith, w.least q r, descend_length l d m b i); first = behind a }

  -- From a state that has a distance above 0, `next` finds a state one move nearer.
  pub next_nearer : (s i : ℕ) → s < m → get_or d s never ≡ suc i → suc i < never → (next l d s i m < m) × Among l s (next l d s i m) × (get_or d (next l d s i m) never ≡ i)
  next_nearer s i h e v = next_away s i (away_of s (suc i) e v h)

  -- The descent from a state that has a distance is the best route.
  pub descend_best : (s : ℕ) → s < m → get_or d s never < never → Best (Among l) t s (descend l d m s (get_or d s never))
  descend_best s h v = descend_away (get_or d s never) s v (away_of s (get_or d s never) refl v h)
