-- A proof extended link by link: its size, depth, steps and branches.
use Prim.Native.Nat.{ℕ, zero, suc, ◌+◌, ◌*◌}
use mathlib.Core.Path.{◌≡◌, refl, sym, ◌∙◌}
use mathlib.Core.List.{List, [], ◌∷◌, ◌++◌, append_assoc, append-nil, Memᴰ}
use native.Mathlib.Omega.{arith}
use lib.ListN.{length}
use Rattle.theory.specs.Words.{Sign, word}
use Rattle.theory.specs.Nets.{Kind}
use Rattle.theory.proofs.completion.Ascending.{parity_word}
use Rattle.theory.specs.Sequents.{Individual, uses, asks_kind, asks_sign, gives_kind, gives_sign, Proof, ax, left}
use Rattle.theory.specs.ProofFiles.{proof_size, proof_depth, left_steps, proof_steps, proof_branches}
use Rattle.theory.proofs.sequent.Measures.{depth_one}
use Rattle.proof_form.specs.Ours.{Hop, use_step, axiom_step, close_step, use_steps, close_steps, nested}

module _ (o k : ℕ) (Γ : List ℕ) (a : ℕ) (one : Individual o k a) where
  -- The link of a hop is in Γ, and its rule asks for what was reached, a → v or a ↛ v.
  pub record Goes (v : ℕ) (s : Sign) (h : Hop) : Type 0 where
    pub low : Kind o k h.tail
    pub high : Kind o k h.head
    pub listed : Memᴰ (word h.tail h.head (uses h.rule)) Γ
    pub kind : asks_kind h.rule h.tail h.head ≡ v
    pub sign : asks_sign h.rule ≡ s

  -- What is reached after a hop.
  abbrev pub to_kind : Hop → ℕ
  to_kind h = gives_kind h.rule h.tail h.head

  abbrev pub to_sign : Hop → Sign
  to_sign h = gives_sign h.rule

  -- The hops lead from a → v, or a ↛ v, to a → y, or a ↛ y.
  abbrev pub HopsLead : ℕ → Sign → List Hop → ℕ → Sign → Type 0
  HopsLead v s [] y t = (v ≡ y) × (s ≡ t)
  HopsLead v s (h ∷ hs) y t = Goes v s h × HopsLead (to_kind h) (to_sign h) hs y t

  -- A proof of a → y, or a ↛ y, with n steps, depth d, m left premises, the steps q and the branches f.
  pub record Has (y : ℕ) (s : Sign) (n d m : ℕ) (q : List ℕ) (f : ℕ → ℕ → List ℕ) : Type 0 where
    pub proof : Proof o k Γ a y s
    pub sized : proof_size proof ≡ n
    pub deep : proof_depth proof ≡ d
    pub lefted : left_steps proof ≡ m
    pub said : proof_steps proof ≡ q
    pub branched : (b i : ℕ) → proof_branches b i proof ≡ f b i

  axiom_has : (y : ℕ) (s : Sign) → Memᴰ (word a y s) Γ → Has y s 1 1 0 (axiom_step a (word a y s)) (λ b i. [])
  unfolding proof_size proof_depth left_steps proof_steps proof_branches
  axiom_has y s h = record {
    proof = ax one h;
    sized = refl;
    deep = refl;
    lefted = refl;
    said = rw (parity_word a y s);
    branched = λ b i. refl;
  }

  -- One link more.
  extended : {n d m : ℕ} {q : List ℕ} {f : ℕ → ℕ → List ℕ} {v : ℕ} {s : Sign} (h : Hop) → Goes v s h → Has (asks_kind h.rule h.tail h.head) (asks_sign h.rule) n d m q f
      → Has (to_kind h) (to_sign h) (n + 2) (d + 1) (m + 1) (use_step a h ++ (q ++ close_step a h)) (λ b i. (b + 3 * suc i) ∷ n ∷ f b (suc i))
  unfolding proof_size proof_depth left_steps proof_steps proof_branches
  extended {n} {d} {m} {q} {f} h g c =
      let z = depth_one c.proof in
      let zs = c.sized in
      let zd = c.deep in
      let zl = c.lefted in
      record {
        proof = left h.rule a h.tail h.head one g.low g.high g.listed c.proof (ax one (Memᴰ.head refl));
        sized = omega arith;
        deep = omega arith;
        lefted = omega arith;
        said = rw (c.said, parity_word a (to_kind h) (to_sign h));
        branched = λ b i. rw (c.branched b (suc i), zs, append-nil (f b (suc i)));
      }

  extend : {n d m : ℕ} {q : List ℕ} {f : ℕ → ℕ → List ℕ} {v : ℕ} {s : Sign} (h : Hop) → Goes v s h → Has v s n d m q f
      → Has (to_kind h) (to_sign h) (n + 2) (d + 1) (m + 1) (use_step a h ++ (q ++ close_step a h)) (λ b i. (b + 3 * suc i) ∷ n ∷ f b (suc i))
  extend {n} {d} {m} {q} {f} h g p =
      let c : Has (asks_kind h.rule h.tail h.head) (asks_sign h.rule) n d m q f = rw (g.kind, g.sign) p in extended h g c

  -- Branches inside each other, around a proof of z steps.
  around : ℕ → ℕ → ℕ → ℕ → List ℕ
  around b i zero z = []
  around b i (suc m) z = (b + 3 * suc i) ∷ (z + 2 * m) ∷ around b (suc i) m z

  around_more : (b i m z : ℕ) (r : List ℕ) → around b i m (z + 2) ++ ((b + 3 * suc (i + m)) ∷ z ∷ r) ≡ around b i (suc m) z ++ r
  unfolding around
  around_more b i zero z r = let e : i + 0 ≡ i = omega arith in let f : z + 2 * 0 ≡ z = omega arith in rw (e, f)
  around_more b i (suc m) z r =
      let e : i + suc m ≡ suc i + m = omega arith in
      let f : z + 2 + 2 * m ≡ z + 2 * suc m = omega arith in
      rw (e, f, around_more b (suc i) m z r)

  around_nested : (b i m : ℕ) → around b i m 1 ≡ nested b i m
  unfolding around nested
  around_nested b i zero = refl
  around_nested b i (suc m) = let e : 1 + 2 * m ≡ suc (2 * m) = omega arith in rw (e, around_nested b (suc i) m)

  -- The same proof, measured in other words.
  remeasured : {y : ℕ} {s : Sign} {n d m n' d' m' : ℕ} {q q' : List ℕ} {f f' : ℕ → ℕ → List ℕ} → Has y s n d m q f → n ≡ n' → d ≡ d' → m ≡ m' → q ≡ q' → ((b i : ℕ) → f b i ≡ f' b i) → Has y s n' d' m' q' f'
  remeasured p en ed em eq ef = record {
    proof = p.proof;
    sized = p.sized ∙ en;
    deep = p.deep ∙ ed;
    lefted = p.lefted ∙ em;
    said = p.said ∙ eq;
    branched = λ b i. p.branched b i ∙ ef b i;
  }

  -- All links.
  build : (hs : List Hop) (v : ℕ) (s : Sign) (y : ℕ) (t : Sign) (n d m : ℕ) (q : List ℕ) (f : ℕ → ℕ → List ℕ) → Has v s n d m q f → HopsLead v s hs y t
      → Has y t (n + 2 * length hs) (d + length hs) (m + length hs) (use_steps a hs ++ (q ++ close_steps a hs)) (λ b i. around b i (length hs) n ++ f b (i + length hs))
  unfolding use_steps close_steps around
  build [] v s y t n d m q f p e =
      let r : Has y t n d m q f = rw (e.0, e.1) at p in
      remeasured r (omega arith) (omega arith) (omega arith) (sym (append-nil q)) (λ b i. let z : i + 0 ≡ i = omega arith in rw z)
  build (h ∷ hs) v s y t n d m q f p e =
      let r = build hs (to_kind h) (to_sign h) y t (n + 2) (d + 1) (m + 1) (use_step a h ++ (q ++ close_step a h)) (λ b i. (b + 3 * suc i) ∷ n ∷ f b (suc i)) (extend h e.0 p) e.1 in
      remeasured r (omega arith) (omega arith) (omega arith) (simp append_assoc) (λ b i. let z : i + suc (length hs) ≡ suc (i + length hs) = omega arith in rw z (around_more b i (length hs) n (f b (suc (i + length hs)))))

  -- From an axiom on.
  pub chain : (hs : List Hop) (v : ℕ) (s : Sign) (y : ℕ) (t : Sign) → Memᴰ (word a v s) Γ → HopsLead v s hs y t
      → Has y t (suc (2 * length hs)) (suc (length hs)) (length hs) (use_steps a hs ++ (axiom_step a (word a v s) ++ close_steps a hs)) (λ b i. nested b i (length hs))
  chain hs v s y t g e =
      remeasured (build hs v s y t 1 1 0 (axiom_step a (word a v s)) (λ b i. []) (axiom_has v s g) e) (omega arith) (omega arith) (omega arith) refl
      (λ b i. append-nil (around b i (length hs) 1) ∙ around_nested b i (length hs))
