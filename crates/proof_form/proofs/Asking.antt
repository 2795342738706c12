-- What a step asks for is what its rule asks for, and a step is broken exactly if it is by no rule.
use Prim.Native.Nat.{ℕ, ◌+◌, ◌≤◌, ◌<◌}
use mathlib.Core.Path.{◌≡◌, refl, sym, ap, ◌∙◌}
use mathlib.Core.Bool.{Bool, true, false, cond}
use mathlib.Core.List.{List, ◌++◌, Memᴰ}
use mathlib.Core.Logic.{inl, inr}
use native.Mathlib.Omega.{arith}
use lib.Dec.{eqb, ltb}
use borrow.Author.Tests.{eqb-true, eqb-false, ltb-false, lt-ltb, le-ltb}
use Rattle.theory_laws.proofs.Booleans.{contradiction}
use Rattle.theory_laws.specs.Deciding.{Decides}
use Rattle.theory_laws.proofs.Deciding.{decides_equal, decides_below, decides_both}
use Rattle.theory.specs.Words.{Sign, is, isnt, sign_number, word, tail_of, head_of, parity, sign_at, sign_of}
use Rattle.theory.specs.Nets.{Kind, Net}
use Rattle.theory.proofs.completion.Ascending.{tail_word, head_word, parity_word, sign_word, word_of_parts, sign_at_number}
use Rattle.theory.specs.Sequents.{Individual, Fresh, LeftRule, →⊢, →⊢', ↛⊢, ↛⊢', uses, asks_kind, asks_sign, gives_kind, gives_sign}
use Rattle.theory.specs.ProofFiles.{rule_of, AxiomStep, RightStep, LeftStep, ByRule}
use Rattle.proof_form.specs.Checker.{individual, kind, rule_at, by_axiom, by_right, by_left, two_of, asks}
use Rattle.proof_form.specs.declared.Asks.{Asks}
use Rattle.proof_form.specs.declared.Asks.TheVariants.{Broken, Nothing, One, Two}
use Rattle.proof_form.proofs.Tests.{by_test, decides_individual, decides_kind, decides_given, decides_fresh}

module _ (o k : ℕ) (ws : List ℕ) (net : Net o k ws) where
  -- A step by a rule on the right: the word v is added, and g is proved.
  pub record ByRight (A : List ℕ) (x y : ℕ) (s : Sign) (r a w v g : ℕ) : Type 0 where
    pub step : RightStep o k (A ++ ws) x y s r a w
    pub more : v ≡ word (o + k) x is
    pub goal : g ≡ word (o + k) y s

  -- A step by a rule on the left: g is proved, and the word v is added.
  pub record ByLeft (A : List ℕ) (r a w g v : ℕ) : Type 0 where
    pub step : LeftStep o k (A ++ ws) r a w
    pub goal : g ≡ word a (asks_kind step.which step.tail step.head) (asks_sign step.which)
    pub more : v ≡ word a (gives_kind step.which step.tail step.head) (gives_sign step.which)

  -- What the step asks for is by its rule; of a broken one nothing is said yet.
  abbrev AsksRight : List ℕ → ℕ → ℕ → Sign → ℕ → ℕ → ℕ → Asks → Type 0
  AsksRight A x y s r a w Broken = Unit {0}
  AsksRight A x y s r a w Nothing = AxiomStep o k (A ++ ws) x y s r a w
  AsksRight A x y s r a w (One v g) = ByRight A x y s r a w v g
  AsksRight A x y s r a w (Two g v) = ByLeft A r a w g v

  below : {y : ℕ} → Kind o k y → y < 1024
  below h = omega (arith, net.few, h.high)

  rule_at_lem : (r : ℕ) → 4 ≤ r → r < 8 → r ≡ rule_of (rule_at r)
  rule_at_lem r h g =
      by_test (λ z. r ≡ rule_of z) (eqb r 4) →⊢ (cond (eqb r 5) →⊢' (cond (eqb r 6) ↛⊢ ↛⊢')) (eqb-true r 4) (λ e4.
      by_test (λ z. r ≡ rule_of z) (eqb r 5) →⊢' (cond (eqb r 6) ↛⊢ ↛⊢') (eqb-true r 5) (λ e5.
      by_test (λ z. r ≡ rule_of z) (eqb r 6) ↛⊢ ↛⊢' (eqb-true r 6) (λ e6.
      let n4 = eqb-false r 4 e4 in
      let n5 = eqb-false r 5 e5 in
      let n6 = eqb-false r 6 e6 in
      omega (arith, n4, n5, n6))))

  decides_axiom : (A : List ℕ) (g r a w : ℕ) → Decides (by_axiom o (o + k) ws A g r a w) ((w ≡ g) × ((a ≡ tail_of g) × ((r ≡ parity g) × (Individual o k a × Memᴰ g (A ++ ws)))))
  decides_axiom A g r a w =
      decides_both (eqb w g) _ (decides_equal w g)
      (decides_both (eqb a (tail_of g)) _ (decides_equal a (tail_of g))
      (decides_both (eqb r (parity g)) _ (decides_equal r (parity g))
      (decides_both (individual o (o + k) a) _ (decides_individual o k a) (decides_given ws A g))))

  decides_right : (A : List ℕ) (g r a w : ℕ) → Decides (by_right o (o + k) A g r a w) ((w ≡ g) × ((a ≡ o + k) × ((r ≡ 2 + parity g) × (Kind o k (tail_of g) × Fresh (o + k) (A ++ ws)))))
  decides_right A g r a w =
      decides_both (eqb w g) _ (decides_equal w g)
      (decides_both (eqb a (o + k)) _ (decides_equal a (o + k))
      (decides_both (eqb r (2 + parity g)) _ (decides_equal r (2 + parity g))
      (decides_both (kind o (o + k) (tail_of g)) _ (decides_kind o k (tail_of g)) (decides_fresh o k ws A net.legal))))

  decides_left : (A : List ℕ) (r a w : ℕ)
      → Decides (by_left o (o + k) ws A r a w) ((r < 8) × ((parity w ≡ sign_number (uses (rule_at r))) × (Individual o k a × (Kind o k (tail_of w) × (Kind o k (head_of w) × Memᴰ w (A ++ ws))))))
  decides_left A r a w =
      decides_both (ltb r 8) _ (decides_below r 8)
      (decides_both (eqb (parity w) (sign_number (uses (rule_at r)))) _ (decides_equal (parity w) (sign_number (uses (rule_at r))))
      (decides_both (individual o (o + k) a) _ (decides_individual o k a)
      (decides_both (kind o (o + k) (tail_of w)) _ (decides_kind o k (tail_of w))
      (decides_both (kind o (o + k) (head_of w)) _ (decides_kind o k (head_of w)) (decides_given ws A w)))))

  asks_right : (A : List ℕ) (x y : ℕ) (s : Sign) (r a w : ℕ) → Kind o k y → AsksRight A x y s r a w (asks o (o + k) ws A (word x y s) r a w)
  unfolding asks
  asks_right A x y s r a w h =
      let g = word x y s in
      let et : tail_of g ≡ x = tail_word x y s (below h) in
      let eh : head_of g ≡ y = head_word x y s (below h) in
      let ep : parity g ≡ sign_number s = parity_word x y s in
      let es : sign_of g ≡ s = sign_word x y s in
      by_test (AsksRight A x y s r a w) (ltb r 2) _ _
      (λ r2. by_test (AsksRight A x y s r a w) (by_axiom o (o + k) ws A g r a w) Nothing Broken
      (λ t. let p = (decides_axiom A g r a w).0 t in
      record { rule = p.1.1.0 ∙ ep; individual = p.1.0 ∙ et; link = p.0; one = rw (p.1.0 ∙ et) at p.1.1.1.0; listed = p.1.1.1.1 })
      (λ t. tt))
      (λ r2. by_test (AsksRight A x y s r a w) (ltb r 4) _ _
      (λ r4. by_test (AsksRight A x y s r a w) (by_right o (o + k) A g r a w) (One (word (o + k) (tail_of g) is) (word (o + k) (head_of g) (sign_of g))) Broken
      (λ t. let p = (decides_right A g r a w).0 t in
      record {
        step = record { rule = p.1.1.0 ∙ ap (λ (z : ℕ). 2 + z) ep; individual = p.1.0; link = p.0; kind = rw et at p.1.1.1.0; fresh = p.1.1.1.1 };
        more = ap (λ (z : ℕ). word (o + k) z is) et;
        goal = rw (eh, es) refl;
      })
      (λ t. tt))
      (λ r4. by_test (AsksRight A x y s r a w) (by_left o (o + k) ws A r a w) (two_of (rule_at r) a (tail_of w) (head_of w)) Broken
      (λ t. let p = (decides_left A r a w).0 t in
      let e : w ≡ word (tail_of w) (head_of w) (uses (rule_at r)) = sym (word_of_parts w) ∙ ap (word (tail_of w) (head_of w)) (ap sign_at p.1.0 ∙ sign_at_number (uses (rule_at r))) in
      record {
        step = record { which = rule_at r; tail = tail_of w; head = head_of w; rule = rule_at_lem r (ltb-false r 4 r4) p.0; link = e; one = p.1.1.0; low = p.1.1.1.0; high = p.1.1.1.1.0; listed = rw e at p.1.1.1.1.1 };
        goal = refl;
        more = refl;
      })
      (λ t. tt)))

  -- ── a step by a rule asks for the rule's premises ──
  low_sign : (s : Sign) → sign_number s < 2
  low_sign is = omega arith
  low_sign isnt = omega arith

  pub asks_nothing : (A : List ℕ) (x y : ℕ) (s : Sign) → Kind o k y → Individual o k x → Memᴰ (word x y s) (A ++ ws)
      → asks o (o + k) ws A (word x y s) (sign_number s) x (word x y s) ≡ Nothing
  unfolding asks
  asks_nothing A x y s h i m =
      rw (
        lt-ltb (sign_number s) 2 (low_sign s),
        (decides_axiom A (word x y s) (sign_number s) x (word x y s)).1
            (refl, (sym (tail_word x y s (below h)), (sym (parity_word x y s), (i, m)))),
      )

  pub asks_one : (A : List ℕ) (x y : ℕ) (s : Sign) → Kind o k y → Kind o k x → Fresh (o + k) (A ++ ws)
      → asks o (o + k) ws A (word x y s) (2 + sign_number s) (o + k) (word x y s) ≡ One (word (o + k) x is) (word (o + k) y s)
  unfolding asks
  asks_one A x y s h hx f =
      let et : tail_of (word x y s) ≡ x = tail_word x y s (below h) in
      let eh : head_of (word x y s) ≡ y = head_word x y s (below h) in
      let es : sign_of (word x y s) ≡ s = sign_word x y s in
      let t = (decides_right A (word x y s) (2 + sign_number s) (o + k) (word x y s)).1
      (refl, (refl, (ap (λ (z : ℕ). 2 + z) (sym (parity_word x y s)), (rw et hx, f)))) in
      rw (le-ltb (2 + sign_number s) 2 (omega arith), lt-ltb (2 + sign_number s) 4 (let z = low_sign s in omega arith), t, et, eh, es)

  rule_of_lem : (r : LeftRule) → rule_at (rule_of r) ≡ r
  rule_of_lem →⊢ = refl
  rule_of_lem →⊢' = refl
  rule_of_lem ↛⊢ = refl
  rule_of_lem ↛⊢' = refl

  rule_low : (r : LeftRule) → rule_of r < 8
  rule_low →⊢ = omega arith
  rule_low →⊢' = omega arith
  rule_low ↛⊢ = omega arith
  rule_low ↛⊢' = omega arith

  rule_high : (r : LeftRule) → 4 ≤ rule_of r
  rule_high →⊢ = omega arith
  rule_high →⊢' = omega arith
  rule_high ↛⊢ = omega arith
  rule_high ↛⊢' = omega arith

  pub asks_two : (A : List ℕ) (g : ℕ) (r : LeftRule) (a p q : ℕ) → Individual o k a → Kind o k p → Kind o k q → Memᴰ (word p q (uses r)) (A ++ ws)
      → asks o (o + k) ws A g (rule_of r) a (word p q (uses r)) ≡ Two (word a (asks_kind r p q) (asks_sign r)) (word a (gives_kind r p q) (gives_sign r))
  unfolding asks
  asks_two A g r a p q i hp hq m =
      let w = word p q (uses r) in
      let et : tail_of w ≡ p = tail_word p q (uses r) (below hq) in
      let eh : head_of w ≡ q = head_word p q (uses r) (below hq) in
      let t = (decides_left A (rule_of r) a w).1
      (rule_low r, (parity_word p q (uses r) ∙ ap (λ z. sign_number (uses z)) (sym (rule_of_lem r)), (i, (rw et hp, (rw eh hq, m))))) in
      rw (le-ltb (rule_of r) 2 (let z = rule_high r in omega arith), le-ltb (rule_of r) 4 (rule_high r), t, et, eh, rule_of_lem r)

  -- ── so a step is broken exactly if it is by no rule ──
  broken : Asks → Bool
  broken Broken = true
  broken Nothing = false
  broken (One v g) = false
  broken (Two g v) = false

  rule_unbroken : (A : List ℕ) (x y : ℕ) (s : Sign) (r a w : ℕ) → Kind o k y → ByRule o k (A ++ ws) x y s r a w → broken (asks o (o + k) ws A (word x y s) r a w) ≡ false
  unfolding broken
  rule_unbroken A x y s r a w h (inl c) = rw (c.rule, c.individual, c.link, asks_nothing A x y s h c.one c.listed)
  rule_unbroken A x y s r a w h (inr (inl c)) = rw (c.rule, c.individual, c.link, asks_one A x y s h c.kind c.fresh)
  rule_unbroken A x y s r a w h (inr (inr c)) = rw (c.rule, c.link, asks_two A (word x y s) c.which a c.tail c.head c.one c.low c.high c.listed)

  -- What the step asks for is by its rule, and it is broken only if it is by none.
  abbrev pub Asked : List ℕ → ℕ → ℕ → Sign → ℕ → ℕ → ℕ → Asks → Type 0
  Asked A x y s r a w Broken = ByRule o k (A ++ ws) x y s r a w → ⊥
  Asked A x y s r a w Nothing = AxiomStep o k (A ++ ws) x y s r a w
  Asked A x y s r a w (One v g) = ByRight A x y s r a w v g
  Asked A x y s r a w (Two g v) = ByLeft A r a w g v

  asked_is : (A : List ℕ) (x y : ℕ) (s : Sign) (r a w : ℕ) → Kind o k y → (z : Asks) → z ≡ asks o (o + k) ws A (word x y s) r a w → AsksRight A x y s r a w z → Asked A x y s r a w z
  unfolding broken
  asked_is A x y s r a w h Broken e p = λ c. contradiction (sym (rule_unbroken A x y s r a w h c) ∙ ap broken (sym e))
  asked_is A x y s r a w h Nothing e p = p
  asked_is A x y s r a w h (One v g) e p = p
  asked_is A x y s r a w h (Two g v) e p = p

  pub asked : (A : List ℕ) (x y : ℕ) (s : Sign) (r a w : ℕ) → Kind o k y → Asked A x y s r a w (asks o (o + k) ws A (word x y s) r a w)
  asked A x y s r a w h = asked_is A x y s r a w h (asks o (o + k) ws A (word x y s) r a w) refl (asks_right A x y s r a w h)

  asked_broken : (A : List ℕ) (x y : ℕ) (s : Sign) (r a w : ℕ) → (ByRule o k (A ++ ws) x y s r a w → ⊥) → (z : Asks) → Asked A x y s r a w z → z ≡ Broken
  asked_broken A x y s r a w n Broken c = refl
  asked_broken A x y s r a w n Nothing c = absurd (n (inl c))
  asked_broken A x y s r a w n (One v g) c = absurd (n (inr (inl c.step)))
  asked_broken A x y s r a w n (Two g v) c = absurd (n (inr (inr c.step)))

  pub asks_broken : (A : List ℕ) (x y : ℕ) (s : Sign) (r a w : ℕ) → Kind o k y → (ByRule o k (A ++ ws) x y s r a w → ⊥) → asks o (o + k) ws A (word x y s) r a w ≡ Broken
  asks_broken A x y s r a w h n = asked_broken A x y s r a w n (asks o (o + k) ws A (word x y s) r a w) (asked A x y s r a w h)
