-- Laws of the supported set, over any sets of links.
use Prim.Native.Nat.{ℕ, ◌+◌, ◌<◌}
use mathlib.Core.Path.{◌≡◌, ◌∙◌}
use mathlib.Core.Logic.{◌⊎◌, inl, inr, ◌↔◌, ⊎_elim}
use native.Mathlib.Omega.{arith}
use Rattle.theory.specs.Words.{Sign, is, isnt}
use Rattle.theory.specs.Nets.{Statements, Kind}
use Rattle.theory.specs.Support.{Supported, linked, r1, r2, r3, r4, r5}
use Rattle.theory.specs.Paths.{Crossing}
use Rattle.theory.proofs.Legal.{Legal}
use Rattle.theory.proofs.support.Smallest.{smallest}
use Rattle.theory.proofs.support.Reach.{Up, here, step, Reached, supported_is_reached}

abbrev pub Sub : Statements → Statements → Type 0
Sub L M = (x y : ℕ) (s : Sign) → L x y s → M x y s

abbrev pub Join : Statements → Statements → Statements
Join L M x y s = L x y s ⊎ M x y s

module _ (o k : ℕ) where
  -- what holds the links of L within the supported set of M holds all that L supports there
  pub into : (L M : Statements) → Sub L (Supported o k M) → Sub (Supported o k L) (Supported o k M)
  into L M h x y s = smallest o k L (Supported o k M) (record { links = h _ _ _; r1 = r1; r2 = r2; r3 = r3; r4 = r4; r5 = r5 })

  pub monotone : (L M : Statements) → Sub L M → Sub (Supported o k L) (Supported o k M)
  monotone L M h = into L M (λ x y s l. linked (h x y s l))

  pub idempotent : (L : Statements) (x y : ℕ) (s : Sign) → Supported o k (Supported o k L) x y s ↔ Supported o k L x y s
  idempotent L x y s = (into (Supported o k L) L (λ x y s l. l) x y s, linked)

  pub part : (L M : Statements) (x y : ℕ) (s : Sign) → Supported o k (Join (Supported o k L) M) x y s ↔ Supported o k (Join L M) x y s
  part L M x y s = (
    into (Join (Supported o k L) M) (Join L M) (λ x y s. ⊎_elim (monotone L (Join L M) (λ x y s. inl) x y s) (λ l. linked (inr l))) x y s,
    into (Join L M) (Join (Supported o k L) M) (λ x y s. ⊎_elim (λ l. linked (inl (linked l))) (λ l. linked (inr l))) x y s,
  )

  -- two nets that support the same support the same beside any third
  pub beside : (L M : Statements) → Sub (Supported o k L) (Supported o k M) → (J : Statements) → Sub (Supported o k (Join L J)) (Supported o k (Join M J))
  beside L M h J = into (Join L J) (Join M J) (λ x y s. ⊎_elim (λ l. monotone M (Join M J) (λ x y s. inl) x y s (h x y s (linked l))) (λ l. linked (inr l)))

  pub ends : (L : Statements) → Legal o k L → (x y : ℕ) (s : Sign) → Supported o k L x y s → (x < o + k) × Kind o k y
  ends L h x y s = smallest o k L (λ x y s. (x < o + k) × Kind o k y) (record {
    links = λ {x} {y} {s} l. (h.tail x y s l, h.head x y s l);
    r1 = λ p. (p.high, p);
    r2 = λ q r a b. (a.0, r);
    r3 = λ p q a. (q.high, p);
    r4 = λ q r a b. (a.0, r);
    r5 = λ p q h a b. (b.0, p);
  })

  -- links from one object a change nothing about another node
  module _ (a : ℕ) (ha : a < o) (L M : Statements) (hL : Legal o k L) (hM : Legal o k M) (from : (x y : ℕ) (s : Sign) → M x y s → x ≡ a) where
    old : (x y : ℕ) (s : Sign) → (x ≡ a → ⊥) → Join L M x y s → L x y s
    old x y s n (inl l) = l
    old x y s n (inr l) = absurd (n (from x y s l))

    not_a : (y : ℕ) → Kind o k y → y ≡ a → ⊥
    not_a y h e = omega arith

    up_old : {y x : ℕ} → Up (Join L M) y x → (x ≡ a → ⊥) → Up L y x
    up_old (here e) n = here e
    up_old (step {x = x} {z = z} l u) n = let l' = old x z is n l in step l' (up_old u (not_a z (hL.head x z is l')))

    up_end : {y x : ℕ} → Up L y x → (x ≡ a → ⊥) → y ≡ a → ⊥
    up_end (here e) n f = n (e ∙ f)
    up_end (step {x = x} {z = z} l u) n f = up_end u (not_a z (hL.head x z is l)) f

    cross_old : (u v : ℕ) → (u ≡ a → ⊥) → (v ≡ a → ⊥) → Crossing (Join L M) u v → Crossing L u v
    cross_old u v m n (inl l) = inl (old u v isnt m l)
    cross_old u v m n (inr l) = inr (old v u isnt n l)

    reached_old : (x y : ℕ) (s : Sign) → (x ≡ a → ⊥) → Reached o k (Join L M) x y s → Reached o k L x y s
    reached_old x y is n p = (up_old p.0 n, p.1)
    reached_old x y isnt n p =
        let f = up_old p.0.first n in
        let g = up_old p.0.second (not_a y p.1) in (
          record { left = p.0.left; right = p.0.right; first = f; cross = cross_old p.0.left p.0.right (up_end f n) (up_end g (not_a y p.1)) p.0.cross; second = g },
          p.1,
        )

    legal_join : Legal o k (Join L M)
    legal_join = record { tail = λ x y s. ⊎_elim (hL.tail x y s) (hM.tail x y s); head = λ x y s. ⊎_elim (hL.head x y s) (hM.head x y s) }

    pub elsewhere : (x y : ℕ) (s : Sign) → (x ≡ a → ⊥) → Supported o k (Join L M) x y s ↔ Supported o k L x y s
    elsewhere x y s n = (
      (λ p. (supported_is_reached o k L hL x y s).1 (reached_old x y s n ((supported_is_reached o k (Join L M) legal_join x y s).0 p))),
      monotone L (Join L M) (λ x y s. inl) x y s,
    )
