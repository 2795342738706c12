-- The calculus is sound: what is proved from the net's words is supported.
use Prim.Native.Nat.{ℕ, ◌+◌, ◌<◌, ◌≤◌}
use mathlib.Core.Path.{◌≡◌, refl, sym, subst, ap, ◌∙◌}
use mathlib.Core.List.Memᴰ
use mathlib.Core.List.{List, ◌∷◌, Memᴰ}
use mathlib.Core.Logic.{◌⊎◌, inl, inr, ⊎_elim}
use native.Mathlib.Omega.{arith}
use native.Mathlib.Decide.{dec_lt}
use Rattle.theory.specs.Words.{Sign, is, isnt, sign_number, word, tail_of, head_of, parity, node_limit}
use Rattle.theory.specs.Nets.{Statements, Kind, Links, Net}
use Rattle.theory.specs.Support.{Supported}
use Rattle.theory.proofs.Legal.{legal_links}
use Rattle.theory.proofs.completion.Ascending.{tail_word, head_word, parity_word}
use Rattle.theory.proofs.support.Reach.{Up, here, step, Apart, Reached, trans, before, behind, reached_supported}
use Rattle.theory.specs.Sequents.{Individual, Fresh, LeftRule, →⊢, →⊢', ↛⊢, ↛⊢', uses, asks_kind, asks_sign, gives_kind, gives_sign, Proof, ax, right, left}

-- A rule on the left speaks of kinds only.
pub asks_kind_lem : (o k : ℕ) (r : LeftRule) {p q : ℕ} → Kind o k p → Kind o k q → Kind o k (asks_kind r p q)
asks_kind_lem o k →⊢ hp hq = hp
asks_kind_lem o k →⊢' hp hq = hq
asks_kind_lem o k ↛⊢ hp hq = hp
asks_kind_lem o k ↛⊢' hp hq = hq

pub gives_kind_lem : (o k : ℕ) (r : LeftRule) {p q : ℕ} → Kind o k p → Kind o k q → Kind o k (gives_kind r p q)
gives_kind_lem o k →⊢ hp hq = hq
gives_kind_lem o k →⊢' hp hq = hp
gives_kind_lem o k ↛⊢ hp hq = hq
gives_kind_lem o k ↛⊢' hp hq = hp

-- Two words that are the same say the same.
same_tail : (x y x' y' : ℕ) (s s' : Sign) → y < 1024 → y' < 1024 → word x y s ≡ word x' y' s' → x ≡ x'
same_tail x y x' y' s s' h h' e = sym (tail_word x y s h) ∙ (ap tail_of e ∙ tail_word x' y' s' h')

same_head : (x y x' y' : ℕ) (s s' : Sign) → y < 1024 → y' < 1024 → word x y s ≡ word x' y' s' → y ≡ y'
same_head x y x' y' s s' h h' e = sym (head_word x y s h) ∙ (ap head_of e ∙ head_word x' y' s' h')

same_sign : (x y x' y' : ℕ) (s s' : Sign) → word x y s ≡ word x' y' s' → sign_number s ≡ sign_number s'
same_sign x y x' y' s s' e = sym (parity_word x y s) ∙ (ap parity e ∙ parity_word x' y' s')

module _ (o k : ℕ) (few : o + k ≤ node_limit) (L : Statements) where
  low : {p : ℕ} → Kind o k p → p < 1024
  low h = omega (arith, few, h.high)

  -- Γ says a → p, or a ↛ p, of a kind p.
  pub record Says (Γ : List ℕ) (a p : ℕ) (s : Sign) : Type 0 where
    pub kind : Kind o k p
    pub listed : Memᴰ (word a p s) Γ

  -- What Γ says of an individual, and what the links L between kinds make of it.
  pub data Derived (Γ : List ℕ) (a y : ℕ) : Sign → Type 0 where
    up : (p : ℕ) → Says Γ a p is → Up L y p → Derived Γ a y is
    over : (p : ℕ) → Says Γ a p is → Apart L p y → Derived Γ a y isnt
    down : (q : ℕ) → Says Γ a q isnt → Up L q y → Derived Γ a y isnt

  -- The same of a kind, of which Γ plays no part.
  abbrev Generic : ℕ → ℕ → Sign → Type 0
  Generic x y is = Up L y x
  Generic x y isnt = Apart L x y

  -- What Γ says of kinds is in L.
  abbrev Good : List ℕ → Type 0
  Good Γ = (p q : ℕ) (s : Sign) → Kind o k p → Says Γ p q s → L p q s

  not_kind : {a : ℕ} → Individual o k a → Kind o k a → ⊥
  not_kind (inl h) g = omega (arith, h, g.low)
  not_kind (inr e) g = omega (arith, e, g.high)

  -- One statement more: it is the one asked for, or that was there before.
  cases : {Γ : List ℕ} {b p : ℕ} {s : Sign} (a c : ℕ) (s' : Sign) → Kind o k c → Says (word a c s' ∷ Γ) b p s → ((b ≡ a) × (p ≡ c) × (sign_number s ≡ sign_number s')) ⊎ Says Γ b p s
  cases {b} {p} {s} a c s' h m = ⊎_elim
      (λ e. inl (same_tail b p a c s s' (low m.kind) (low h) e, same_head b p a c s s' (low m.kind) (low h) e, same_sign b p a c s s' e))
      (λ n. inr (record { kind = m.kind; listed = n }))
      (Memᴰ.cases_cons m.listed)

  good_more : {Γ : List ℕ} (a c : ℕ) (s : Sign) → Individual o k a → Kind o k c → Good Γ → Good (word a c s ∷ Γ)
  good_more a c s i h g p q t hp m = ⊎_elim (λ e. absurd (not_kind i (subst (Kind o k) e.0 hp))) (g p q t hp) (cases a c s h m)

  -- A statement that is derived may be left out.
  cut_up : {Γ : List ℕ} {a c b y p : ℕ} (s' : Sign) → Derived Γ a c s' → Up L y p → (b ≡ a) × (p ≡ c) × (0 ≡ sign_number s') → Derived Γ b y is
  cut_up {Γ} {b} {y} {p} is (up p₀ m u) v e = up p₀ (subst (λ (z : ℕ). Says Γ z p₀ is) (sym e.0) m) (trans u (subst (λ (z : ℕ). Up L y z) e.1 v))
  cut_up isnt d v e = absurd (omega (arith, e.2))

  cut_over : {Γ : List ℕ} {a c b y p : ℕ} (s' : Sign) → Derived Γ a c s' → Apart L p y → (b ≡ a) × (p ≡ c) × (0 ≡ sign_number s') → Derived Γ b y isnt
  cut_over {Γ} {b} {y} {p} is (up p₀ m u) v e = over p₀ (subst (λ (z : ℕ). Says Γ z p₀ is) (sym e.0) m) (before u (subst (λ (z : ℕ). Apart L z y) e.1 v))
  cut_over isnt d v e = absurd (omega (arith, e.2))

  cut_down : {Γ : List ℕ} {a c b y q : ℕ} (s' : Sign) → Derived Γ a c s' → Up L q y → (b ≡ a) × (q ≡ c) × (1 ≡ sign_number s') → Derived Γ b y isnt
  cut_down is d v e = absurd (omega (arith, e.2))
  cut_down {Γ} {y = y} isnt (over p₀ m n) v e = over p₀ (subst (λ (z : ℕ). Says Γ z p₀ is) (sym e.0) m) (behind (subst (λ (z : ℕ). Up L z y) e.1 v) n)
  cut_down {Γ} {y = y} isnt (down q₀ m u) v e = down q₀ (subst (λ (z : ℕ). Says Γ z q₀ isnt) (sym e.0) m) (trans (subst (λ (z : ℕ). Up L z y) e.1 v) u)

  cut : {Γ : List ℕ} {a c b y : ℕ} {s : Sign} (s' : Sign) → Kind o k c → Derived Γ a c s' → Derived (word a c s' ∷ Γ) b y s → Derived Γ b y s
  cut {a = a} {c = c} s' h d (up p m u) = ⊎_elim (cut_up s' d u) (λ m. up p m u) (cases a c s' h m)
  cut {a = a} {c = c} s' h d (over p m n) = ⊎_elim (cut_over s' d n) (λ m. over p m n) (cases a c s' h m)
  cut {a = a} {c = c} s' h d (down q m u) = ⊎_elim (cut_down s' d u) (λ m. down q m u) (cases a c s' h m)

  -- What a rule on the left adds is derived already.
  one : {p q : ℕ} → L p q is → Up L q p
  one l = step l (here refl)

  added_is : {Γ : List ℕ} {a p q : ℕ} → L p q is → Derived Γ a p is → Derived Γ a q is
  added_is l (up p₀ m u) = up p₀ m (trans u (one l))

  added_is' : {Γ : List ℕ} {a p q : ℕ} → L p q is → Derived Γ a q isnt → Derived Γ a p isnt
  added_is' l (over p₀ m n) = over p₀ m (behind (one l) n)
  added_is' l (down q₀ m u) = down q₀ m (step l u)

  added_not : {Γ : List ℕ} {a p q : ℕ} → L p q isnt → Derived Γ a p is → Derived Γ a q isnt
  added_not {p = p} {q = q} l (up p₀ m u) = over p₀ m (record { left = p; right = q; first = u; cross = inl l; second = here refl })

  added_not' : {Γ : List ℕ} {a p q : ℕ} → L p q isnt → Derived Γ a q is → Derived Γ a p isnt
  added_not' {p = p} {q = q} l (up p₀ m u) = over p₀ m (record { left = q; right = p; first = u; cross = inr l; second = here refl })

  added : {Γ : List ℕ} {a : ℕ} (r : LeftRule) (p q : ℕ) → L p q (uses r) → Derived Γ a (asks_kind r p q) (asks_sign r) → Derived Γ a (gives_kind r p q) (gives_sign r)
  added →⊢ p q l d = added_is l d
  added →⊢' p q l d = added_is' l d
  added ↛⊢ p q l d = added_not l d
  added ↛⊢' p q l d = added_not' l d

  -- What is derived of the fresh object, of which nothing is said but N → p, holds of the kind p.
  no_word : {Γ : List ℕ} {q : ℕ} {s : Sign} → Fresh (o + k) Γ → Says Γ (o + k) q s → ⊥
  no_word {q} {s} f m = f _ m.listed (tail_word (o + k) q s (low m.kind))

  generic : {Γ : List ℕ} {p q : ℕ} {s : Sign} → Kind o k p → Fresh (o + k) Γ → Derived (word (o + k) p is ∷ Γ) (o + k) q s → Generic p q s
  generic {p} {q} h f (up p₀ m u) = ⊎_elim (λ e. subst (λ (z : ℕ). Up L q z) e.1 u) (λ m. absurd (no_word f m)) (cases (o + k) p is h m)
  generic {p} {q} h f (over p₀ m n) = ⊎_elim (λ e. subst (λ (z : ℕ). Apart L z q) e.1 n) (λ m. absurd (no_word f m)) (cases (o + k) p is h m)
  generic {p} h f (down q₀ m u) = ⊎_elim (λ e. absurd (omega (arith, e.2))) (λ m. absurd (no_word f m)) (cases (o + k) p is h m)

  -- What a provable sequent means: of an individual, and of a kind.
  abbrev Means : List ℕ → ℕ → ℕ → Sign → Type 0
  Means Γ x y s = (Individual o k x → Derived Γ x y s) × (Kind o k x → Generic x y s)

  direct : {Γ : List ℕ} {a p : ℕ} (s : Sign) → Says Γ a p s → Derived Γ a p s
  direct is m = up _ m (here refl)
  direct isnt m = down _ m (here refl)

  means : {Γ : List ℕ} {x y : ℕ} {s : Sign} → Kind o k y → Good Γ → Proof o k Γ x y s → Means Γ x y s
  means h g (ax {s = s} i m) = ((λ j. direct s (record { kind = h; listed = m })), λ j. absurd (not_kind i j))
  means h g (right {p = p} hp f d) = (
    (λ j. absurd (not_kind j hp)),
    λ j. generic hp f ((means h (good_more (o + k) p is (inr refl) hp g) d).0 (inr refl)),
  )
  means h g (left r a p q i hp hq m d e) =
      let l = g p q (uses r) hp (record { kind = hq; listed = m }) in
      let hl = (means (asks_kind_lem o k r hp hq) g d).0 i in
      let hm = means h (good_more a (gives_kind r p q) (gives_sign r) i (gives_kind_lem o k r hp hq) g) e in
      ((λ j. cut (gives_sign r) (gives_kind_lem o k r hp hq) (added r p q l hl) (hm.0 j)), hm.1)

-- ── the net ──
module _ (o k : ℕ) (ws : List ℕ) (net : Net o k ws) where
  links : (p q : ℕ) (s : Sign) → Says o k net.few (Links ws) ws p q s → Links ws p q s
  links p q s m =
      let h : q < 1024 = omega (arith, net.few, m.kind.high) in
      record { it = word p q s; listed = m.listed; tail = tail_word p q s h; head = head_word p q s h; sign = parity_word p q s }

  object_reached : {x y : ℕ} {s : Sign} → Kind o k y → Derived o k net.few (Links ws) ws x y s → Reached o k (Links ws) x y s
  object_reached {x} h (up p m u) = (step (links x p is m) u, h)
  object_reached {x} h (over p m n) = (before (step (links x p is m) (here refl)) n, h)
  object_reached {x} h (down q m u) = (record { left = x; right = q; first = here refl; cross = inl (links x q isnt m); second = u }, h)

  kind_reached : (x y : ℕ) (s : Sign) → Kind o k y → Generic o k net.few (Links ws) x y s → Reached o k (Links ws) x y s
  kind_reached x y is h u = (u, h)
  kind_reached x y isnt h n = (n, h)

  -- A statement about a node that has a proof from the net is supported.
  pub sound : (x y : ℕ) (s : Sign) → x < o + k → Kind o k y → Proof o k ws x y s → Supported o k (Links ws) x y s
  sound x y s hx h d =
      let m = means o k net.few (Links ws) h (λ p q s hp m. links p q s m) d in
      reached_supported o k (Links ws) (legal_links o k ws net.legal) x y s (side m (dec_lt x o))
    where
      side : Means o k net.few (Links ws) ws x y s → Dec (x < o) → Reached o k (Links ws) x y s
      side m (yes g) = object_reached h (m.0 (inl g))
      side m (no g) = kind_reached x y s h (m.1 (record { low = omega arith; high = hx }))
