-- The calculus is complete: what is supported has a proof, so that a statement is supported exactly if it has one.
use Prim.Native.Nat.{ℕ, ◌+◌, ◌<◌}
use mathlib.Core.Path.{◌≡◌, refl, sym, subst, ap, ◌∙◌}
use mathlib.Core.List.{List, ◌∷◌, Memᴰ}
use mathlib.Core.Logic.{inl, inr, ◌↔◌}
use native.Mathlib.Omega.{arith}
use native.Mathlib.Decide.{dec_lt}
use Rattle.theory.specs.Words.{Sign, is, isnt, word, sign_at, sign_of}
use Rattle.theory.specs.Nets.{Kind, Links, AllIn, Net}
use Rattle.theory.specs.Support.{Supported}
use Rattle.theory.specs.Paths.{Crossing}
use Rattle.theory.specs.Sequents.{Individual, Fresh, LeftRule, →⊢, →⊢', ↛⊢, ↛⊢', uses, asks_kind, asks_sign, gives_kind, gives_sign, Proof, ax, right, left}
use Rattle.theory.proofs.Legal.{legal_links}
use Rattle.theory.proofs.completion.Ascending.{word_of_parts, sign_at_number}
use Rattle.theory.proofs.support.Reach.{Up, here, step, Reached, after_link, ends_in, supported_reached}
use Rattle.theory.proofs.sequent.Sound.{sound}

-- A link of the net is one of its words.
pub link_listed : (ws : List ℕ) (p q : ℕ) (s : Sign) → Links ws p q s → Memᴰ (word p q s) ws
link_listed ws p q s l =
    let e : sign_of l.it ≡ s = ap sign_at l.sign ∙ sign_at_number s in
    rw (sym (word_of_parts l.it), l.tail, l.head, e) at l.listed

module _ (o k : ℕ) (ws : List ℕ) (net : Net o k ws) where
  abbrev L : ℕ → ℕ → Sign → Type 0
  L = Links ws

  pub head_kind : (p q : ℕ) (s : Sign) → L p q s → Kind o k q
  head_kind p q s l = (legal_links o k ws net.legal).head p q s l

  -- Node N is no node of the net.
  pub fresh_in_net : Fresh (o + k) ws
  fresh_in_net w m e = let h = (net.legal w m).tail in omega (arith, h, e)

  -- What is reached is a kind where the start is one.
  up_kind : {x y : ℕ} → Kind o k x → Up L y x → Kind o k y
  up_kind h u = after_link o k L (legal_links o k ws net.legal) h (ends_in o k L (legal_links o k ws net.legal) u)

  -- ── an individual's proof goes on over links between kinds ──
  module _ (Γ : List ℕ) (part : AllIn ws Γ) (a : ℕ) (one : Individual o k a) where
    -- by one link, whose rule has what is asked for
    along : (r : LeftRule) (p q : ℕ) → Kind o k p → Kind o k q → L p q (uses r) → Proof o k Γ a (asks_kind r p q) (asks_sign r) → Proof o k Γ a (gives_kind r p q) (gives_sign r)
    along r p q hp hq l d = left r a p q one hp hq (part _ (link_listed ws p q (uses r) l)) d (ax one (Memᴰ.head refl))

    upwards : {q p : ℕ} → Kind o k p → Up L q p → Proof o k Γ a p is → Proof o k Γ a q is
    upwards {q = q} h (here e) d = subst (λ (z : ℕ). Proof o k Γ a z is) e d
    upwards h (step {x = x} {z = z} l u) d = let hz = head_kind x z is l in upwards hz u (along →⊢ x z h hz l d)

    downwards : {q p : ℕ} → Kind o k p → Up L q p → Proof o k Γ a q isnt → Proof o k Γ a p isnt
    downwards h (here e) d = subst (λ (z : ℕ). Proof o k Γ a z isnt) (sym e) d
    downwards h (step {x = x} {z = z} l u) d = let hz = head_kind x z is l in along →⊢' x z h hz l (downwards hz u d)

    over : {u v : ℕ} → Kind o k u → Kind o k v → Crossing L u v → Proof o k Γ a u is → Proof o k Γ a v isnt
    over {u} {v} hu hv (inl l) d = along ↛⊢ u v hu hv l d
    over {u} {v} hu hv (inr l) d = along ↛⊢' v u hv hu l d

    -- from what is proved of a kind to all that is reached from the kind
    reaching : {p q : ℕ} (s : Sign) → Kind o k p → Reached o k L p q s → Proof o k Γ a p is → Proof o k Γ a q s
    reaching is h r d = upwards h r.0 d
    reaching isnt h r d =
        let n = r.0 in
        let hl = up_kind h n.first in
        let hr : Kind o k n.right = up_kind r.1 n.second in
        downwards r.1 n.second (over hl hr n.cross (upwards h n.first d))

  -- ── a kind, by the fresh object; an object, by its first link ──
  kind_complete : (x y : ℕ) (s : Sign) → Kind o k x → Reached o k L x y s → Proof o k ws x y s
  kind_complete x y s h r =
      right h fresh_in_net
      (reaching (word (o + k) x is ∷ ws) (λ w m. Memᴰ.tail m) (o + k) (inr refl) s h r (ax (inr refl) (Memᴰ.head refl)))

  object_complete : (x y : ℕ) (s : Sign) → x < o → Reached o k L x y s → Proof o k ws x y s
  object_complete x y is h r = first r.0
    where
      first : Up L y x → Proof o k ws x y is
      first (here e) = absurd (omega (arith, h, e, r.1.low))
      first (step {z = z} l u) = upwards ws (λ w m. m) x (inl h) (head_kind x z is l) u (ax (inl h) (link_listed ws x z is l))
  object_complete x y isnt h r = first r.0.first
    where
      crossed : {u : ℕ} → x ≡ u → Crossing L u r.0.right → L x r.0.right isnt
      crossed e (inl l) = subst (λ (z : ℕ). L z r.0.right isnt) (sym e) l
      crossed e (inr l) = let g = (head_kind r.0.right _ isnt l).low in absurd (omega (arith, h, e, g))

      first : Up L r.0.left x → Proof o k ws x y isnt
      first (here e) =
          let l = crossed e r.0.cross in
          downwards ws (λ w m. m) x (inl h) r.1 r.0.second (ax (inl h) (link_listed ws x r.0.right isnt l))
      first (step {z = z} l u) =
          reaching ws (λ w m. m) x (inl h) isnt (head_kind x z is l)
          (record { left = r.0.left; right = r.0.right; first = u; cross = r.0.cross; second = r.0.second }, r.1)
          (ax (inl h) (link_listed ws x z is l))

  module _ (x y : ℕ) (s : Sign) (hx : x < o + k) (hy : Kind o k y) where
    -- A supported statement about a node has a proof.
    pub complete : Supported o k L x y s → Proof o k ws x y s
    complete p = side (dec_lt x o)
      where
        reached : Reached o k L x y s
        reached = supported_reached o k L (legal_links o k ws net.legal) p

        side : Dec (x < o) → Proof o k ws x y s
        side (yes h) = object_complete x y s h reached
        side (no h) = kind_complete x y s (record { low = omega arith; high = hx }) reached

    -- It has a proof exactly if it is supported.
    pub provable_exactly : Proof o k ws x y s ↔ Supported o k L x y s
    provable_exactly = (sound o k ws net x y s hx hy, complete)
