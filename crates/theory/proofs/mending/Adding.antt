-- One link more: what is torn with it and was not before, it tore.
use Prim.Native.Nat.{ℕ}
use mathlib.Core.Path.{◌≡◌, subst}
use mathlib.Core.Logic.{◌⊎◌, inl, inr, ⊎_elim}
use native.Mathlib.Omega.{arith}
use Rattle.theory.specs.Words.{Sign, is, isnt, sign_number}
use Rattle.theory.specs.Nets.{Statements}
use Rattle.theory.specs.Paths.{Crossing}
use Rattle.theory.proofs.support.Reach.{Up, here, step, Apart, trans}
use Rattle.theory.proofs.mending.Torn.{Torn, turned_torn}

-- M is L with the statement p, q, s besides.
pub record Adds (L M : Statements) (p q : ℕ) (s : Sign) : Type 0 where
  pub new : M p q s
  pub old : (x y : ℕ) (t : Sign) → M x y t → L x y t ⊎ ((x ≡ p) × (y ≡ q) × (sign_number t ≡ sign_number s))

module _ (L M : Statements) (p q : ℕ) where
  -- ── the link says → ──
  module _ (a : Adds L M p q is) where
    -- A way up goes over the new link or does without.
    up_split : {y x : ℕ} → Up M y x → Up L y x ⊎ (Up M p x × Up M y q)
    up_split (here e) = inl (here e)
    up_split {y = y} (step {x = x} {z = z} l u) = at (a.old x z is l) (up_split u)
      where
        at : L x z is ⊎ ((x ≡ p) × (z ≡ q) × (sign_number is ≡ sign_number is)) → Up L y z ⊎ (Up M p z × Up M y q) → Up L y x ⊎ (Up M p x × Up M y q)
        at (inr e) r = inr (here e.0, subst (λ (v : ℕ). Up M y v) e.1 u)
        at (inl g) (inl v) = inl (step g v)
        at (inl g) (inr v) = inr (step l v.0, v.1)

    cross_old : (u v : ℕ) → Crossing M u v → Crossing L u v
    cross_old u v (inl l) = inl (⊎_elim (λ g. g) (λ e. let z = e.2 in absurd (omega arith)) (a.old u v isnt l))
    cross_old u v (inr l) = inr (⊎_elim (λ g. g) (λ e. let z = e.2 in absurd (omega arith)) (a.old v u isnt l))

    -- Where the first way goes over the new link, x is below p and kept apart from q.
    by_first : {x : ℕ} (t : Torn M x) → Up M p x → Up M t.left q → Up M p x × Apart M q x
    by_first t u v = (u, record { left = t.left; right = t.right; first = v; cross = t.cross; second = t.second })

    pub torn_is : (x : ℕ) → Torn M x → Torn L x ⊎ (Up M p x × Apart M q x)
    torn_is x t = at (up_split t.first) (up_split t.second)
      where
        at : Up L t.left x ⊎ (Up M p x × Up M t.left q) → Up L t.right x ⊎ (Up M p x × Up M t.right q) → Torn L x ⊎ (Up M p x × Apart M q x)
        at (inr v) r = inr (by_first t v.0 v.1)
        at (inl f) (inr v) = inr (by_first (turned_torn t) v.0 v.1)
        at (inl f) (inl g) = inl (record { left = t.left; right = t.right; first = f; second = g; cross = cross_old t.left t.right t.cross })

    pub is_torn : (x : ℕ) → Up M p x → Apart M q x → Torn M x
    is_torn x u n = record { left = n.left; right = n.right; first = trans u (step a.new n.first); second = n.second; cross = n.cross }

  -- ── the link says ↛ ──
  module _ (a : Adds L M p q isnt) where
    up_old : {y x : ℕ} → Up M y x → Up L y x
    up_old (here e) = here e
    up_old (step {x = x} {z = z} l u) = step (⊎_elim (λ g. g) (λ e. let z = e.2 in absurd (omega arith)) (a.old x z is l)) (up_old u)

    pub torn_isnt : (x : ℕ) → Torn M x → Torn L x ⊎ (Up M p x × Up M q x)
    torn_isnt x t = at t.left t.right t.first t.second t.cross
      where
        mine : (l r : ℕ) → Up M l x → Up M r x → L l r isnt ⊎ ((l ≡ p) × (r ≡ q) × (sign_number isnt ≡ sign_number isnt)) → Torn L x ⊎ (Up M p x × Up M q x)
        mine l r f g (inl c) = inl (record { left = l; right = r; first = up_old f; second = up_old g; cross = inl c })
        mine l r f g (inr e) = inr (subst (λ (v : ℕ). Up M v x) e.0 f, subst (λ (v : ℕ). Up M v x) e.1 g)

        at : (l r : ℕ) → Up M l x → Up M r x → Crossing M l r → Torn L x ⊎ (Up M p x × Up M q x)
        at l r f g (inl c) = mine l r f g (a.old l r isnt c)
        at l r f g (inr c) = mine r l g f (a.old r l isnt c)

    pub isnt_torn : (x : ℕ) → Up M p x → Up M q x → Torn M x
    isnt_torn x u v = record { left = p; right = q; first = u; second = v; cross = inl a.new }
