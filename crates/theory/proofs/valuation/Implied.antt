-- What is supported is implied, and the net's own valuation shows the converse (Theorem 3 of the report).
use Prim.Native.Nat.{ℕ, ◌+◌, ◌≤◌, ◌<◌}
use mathlib.Core.Logic.{◌↔◌}
use native.Mathlib.Omega.{arith}
use native.Mathlib.Decide.{dec_lt}
use Rattle.theory.specs.Words.{Sign, is, isnt}
use Rattle.theory.specs.Nets.{Statements, Kind}
use Rattle.theory.specs.Support.{Supported, Closed, linked, r1, r2, r3, r4, r5}
use Rattle.theory.specs.Valuations.{Valuation, Agrees, HoldsIn, object, kinds, Model, Implies, Domain, over_nodes, own}
use Rattle.theory.proofs.Legal.{Legal}
use Rattle.theory.proofs.support.Smallest.{smallest}

-- ── what is supported holds in every model ──
module _ (o k : ℕ) {D : Type 0} (v : Valuation o D) where
  -- A statement about a kind holds at every element.
  at_every : (p q : ℕ) (s : Sign) → Kind o k p → HoldsIn v p q s → (d : D) → Agrees v d p q s
  at_every p q s h (object l a) = absurd (omega (arith, h.low))
  at_every p q s h (kinds l f) = f

  -- The statements that hold are closed under the five rules.
  pub holds_closed : (L : Statements) → Model L v → Closed o k L (HoldsIn v)
  holds_closed L m = record {
    links = λ {x} {y} {s} l. m x y s l;
    r1 = λ p. kinds p.low (λ d. (λ a. a, λ a. a));
    r2 = λ q r a b. two a (at_every _ _ is q b);
    r3 = λ p q a. kinds q.low (λ d. let t = at_every _ _ isnt p a d in (t.1, t.0));
    r4 = λ q r a b. four a (at_every _ _ isnt q b);
    r5 = λ p q h a b. five b (at_every _ _ is p a);
  }
    where
      two : {x q r : ℕ} → HoldsIn v x q is → ((d : D) → Agrees v d q r is) → HoldsIn v x r is
      two (object h a) f = object h ((f _).0 a)
      two (kinds h g) f = kinds h (λ d. (λ a. (f d).0 ((g d).0 a), λ a. (g d).1 ((f d).1 a)))

      four : {x q r : ℕ} → HoldsIn v x q is → ((d : D) → Agrees v d q r isnt) → HoldsIn v x r isnt
      four (object h a) f = object h ((f _).0 a)
      four (kinds h g) f = kinds h (λ d. (λ a. (f d).0 ((g d).0 a), λ a. (g d).1 ((f d).1 a)))

      five : {a p q : ℕ} → HoldsIn v a q isnt → ((d : D) → Agrees v d p q is) → HoldsIn v a p isnt
      five (object h a) f = object h ((f _).1 a)
      five (kinds h g) f = kinds h (λ d. (λ a. (f d).1 ((g d).0 a), λ a. (g d).1 ((f d).0 a)))

-- A supported statement holds in every valuation, over any domain, in which all links hold.
pub supported_implied : (o k : ℕ) (L : Statements) (x y : ℕ) (s : Sign) → Supported o k L x y s → Implies o L x y s
supported_implied o k L x y s p D v m = smallest o k L (HoldsIn v) (holds_closed o k v L m) p

-- ── the net's own valuation ──
module _ (o k : ℕ) (L : Statements) where
  abbrev element : (x : ℕ) → x < o + k → Domain o k
  element x h = record { at = x; low = h }

  -- What a kind's → takes back from any node d: (3.5) asks for an object there, and for a kind it follows from (3.3) and (3.4).
  back : (p q d : ℕ) → Kind o k p → Kind o k q → d < o + k → Supported o k L p q is → Supported o k L d q isnt → Supported o k L d p isnt
  back p q d hp hq hd a b = pick (dec_lt d o)
    where
      pick : Dec (d < o) → Supported o k L d p isnt
      pick (yes h) = r5 hp hq h a b
      pick (no h) =
          let kd : Kind o k d = record { low = omega arith; high = hd } in
          r3 hp kd (r4 hq kd a (r3 kd hq b))

  -- Where the values at kinds are what is supported, be they given as P.
  module _ (P : Statements) (e : (x y : ℕ) (s : Sign) → x < o + k → Kind o k y → P x y s ↔ Supported o k L x y s) where
    to_agrees : (p q : ℕ) (s : Sign) → Kind o k p → Kind o k q → Supported o k L p q s → (d : Domain o k) → Agrees (over_nodes o k P) d p q s
    to_agrees p q is hp hq a d = (
      (λ t. (e d.at q is d.low hq).1 (r2 hp hq ((e d.at p is d.low hp).0 t) a)),
      λ t. (e d.at p isnt d.low hp).1 (back p q d.at hp hq d.low a ((e d.at q isnt d.low hq).0 t)),
    )
    to_agrees p q isnt hp hq a d = (
      (λ t. (e d.at q isnt d.low hq).1 (r4 hp hq ((e d.at p is d.low hp).0 t) a)),
      λ t. (e d.at p isnt d.low hp).1 (r4 hq hp ((e d.at q is d.low hq).0 t) (r3 hp hq a)),
    )

    -- The witness of the kind p has p.
    from_agrees : (p q : ℕ) (s : Sign) → Kind o k p → Kind o k q → ((d : Domain o k) → Agrees (over_nodes o k P) d p q s) → Supported o k L p q s
    from_agrees p q is hp hq f = (e p q is hp.high hq).0 ((f (element p hp.high)).0 ((e p p is hp.high hp).1 (r1 hp)))
    from_agrees p q isnt hp hq f = (e p q isnt hp.high hq).0 ((f (element p hp.high)).0 ((e p p is hp.high hp).1 (r1 hp)))

    -- A statement holds in such a valuation exactly if it is supported.
    pub values_exactly : (x y : ℕ) (s : Sign) → x < o + k → Kind o k y → HoldsIn (over_nodes o k P) x y s ↔ Supported o k L x y s
    values_exactly x y s hx hy = (from, to (dec_lt x o))
      where
        from : HoldsIn (over_nodes o k P) x y s → Supported o k L x y s
        from (object h a) = (e x y s hx hy).0 a
        from (kinds h f) = from_agrees x y s (record { low = h; high = hx }) hy f

        to : Dec (x < o) → Supported o k L x y s → HoldsIn (over_nodes o k P) x y s
        to (yes h) a = object h ((e x y s hx hy).1 a)
        to (no h) a =
            let l : o ≤ x = omega arith in
            kinds l (to_agrees x y s (record { low = l; high = hx }) hy a)

    -- So all links hold in it.
    pub values_model : Legal o k L → Model L (over_nodes o k P)
    values_model h x y s l = (values_exactly x y s (h.tail x y s l) (h.head x y s l)).1 (linked l)

  -- A statement holds in the net's own valuation exactly if it is supported (Lemma 14), and all links hold there.
  pub own_exactly : (x y : ℕ) (s : Sign) → x < o + k → Kind o k y → HoldsIn (own o k L) x y s ↔ Supported o k L x y s
  own_exactly = values_exactly (Supported o k L) (λ x y s hx hy. (λ a. a, λ a. a))

  pub own_model : Legal o k L → Model L (own o k L)
  own_model = values_model (Supported o k L) (λ x y s hx hy. (λ a. a, λ a. a))

  -- A statement is supported exactly if it is implied (Theorem 3).
  pub supported_exactly_implied : Legal o k L → (x y : ℕ) (s : Sign) → x < o + k → Kind o k y → Supported o k L x y s ↔ Implies o L x y s
  supported_exactly_implied h x y s hx hy = (supported_implied o k L x y s, λ i. (own_exactly x y s hx hy).0 (i (Domain o k) (own o k L) (own_model h)))
