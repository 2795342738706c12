-- What the walk has come over without a fault is a proof, the contents that fitted are its branches, and a fault is the first.
use Prim.Native.Nat.{ℕ, zero, suc, ◌+◌, ◌-◌, ◌*◌, ◌/◌, ◌≤◌, ◌<◌}
use mathlib.Core.Path.{◌≡◌, refl, sym, ap, ◌∙◌}
use mathlib.Core.Bool.{Bool, true, ◌&&◌}
use mathlib.Core.List.{List, ◌∷◌, ◌++◌, append_assoc}
use native.Mathlib.Omega.{arith}
use lib.Dec.{eqb, ltb, leb}
use lib.ListN.{length, get_or, take, drop}
use lib.Seq.{drop-cons, length-take-le, get_or-take}
use borrow.Author.Tests.{eqb-true, ltb-true, leb-false}
use Rattle.theory_laws.proofs.Booleans.{and_left, and_right}
use Rattle.theory.specs.Words.{Sign, is, word}
use Rattle.theory.specs.Nets.{Kind, Net}
use Rattle.theory.specs.Sequents.{asks_kind, asks_sign, gives_kind, gives_sign, Proof, ax, right, left}
use Rattle.theory.specs.ProofFiles.{proof_size, proof_depth, left_steps, proof_steps, proof_branches, AxiomStep, RightStep, LeftStep, Faulty, deep, broken, in_right, in_left, in_main}
use Rattle.proof_form.specs.Checker.{asks, holds, fits, main_premise, premises, sequent}
use Rattle.proof_form.specs.declared.Asks.{Asks}
use Rattle.proof_form.specs.declared.Asks.TheVariants.{Broken, Nothing, One, Two}
use Rattle.proof_form.specs.declared.Walked.{Walked}
use Rattle.proof_form.specs.declared.Walked.TheVariants.{Upto, Fault, Cut}
use Rattle.theory.proofs.sequent.Sound.{asks_kind_lem}
use Rattle.proof_form.proofs.Tests.{by_test}
use Rattle.proof_form.proofs.Asking.{Asked, asked}

-- Three numbers of a list, one after the other.
pub three : (l : List ℕ) (at : ℕ) → at + 2 < length l → drop at l ≡ get_or l at 0 ∷ get_or l (at + 1) 0 ∷ get_or l (at + 2) 0 ∷ drop (at + 3) l
three l at h =
    let e1 : at + 1 ≡ suc at = omega arith in
    let e2 : at + 2 ≡ suc (suc at) = omega arith in
    let e3 : at + 3 ≡ suc (suc (suc at)) = omega arith in
    drop-cons l at 0 (omega arith) ∙ ap (λ z. get_or l at 0 ∷ z) (drop-cons l (suc at) 0 (omega arith) ∙ ap (λ z. get_or l (suc at) 0 ∷ z) (drop-cons l (suc (suc at)) 0 (omega arith)))
    ∙ rw (e1, e2, e3)

-- Two numbers of the contents.
pub entry : (l : List ℕ) (b j p z : ℕ) → b ≤ length l → holds l b (1 + 2 * j) p ≡ true → holds l b (2 + 2 * j) z ≡ true → drop (1 + 2 * j) (take b l) ≡ p ∷ z ∷ drop (1 + 2 * suc j) (take b l)
entry l b j p z h e f =
    let c = take b l in
    let m : length c ≡ b = length-take-le b l h in
    let lo : 1 + 2 * j < b = ltb-true (1 + 2 * j) b (and_left (ltb (1 + 2 * j) b) (eqb (get_or l (1 + 2 * j) 0) p) e) in
    let hi : 2 + 2 * j < b = ltb-true (2 + 2 * j) b (and_left (ltb (2 + 2 * j) b) (eqb (get_or l (2 + 2 * j) 0) z) f) in
    let ep : get_or c (1 + 2 * j) 0 ≡ p = get_or-take b l (1 + 2 * j) 0 lo ∙ eqb-true _ _ (and_right (ltb (1 + 2 * j) b) (eqb (get_or l (1 + 2 * j) 0) p) e) in
    let ez : get_or c (2 + 2 * j) 0 ≡ z = get_or-take b l (2 + 2 * j) 0 hi ∙ eqb-true _ _ (and_right (ltb (2 + 2 * j) b) (eqb (get_or l (2 + 2 * j) 0) z) f) in
    let s1 : suc (1 + 2 * j) ≡ 2 + 2 * j = omega arith in
    let s2 : suc (2 + 2 * j) ≡ 1 + 2 * suc j = omega arith in
    let d1 : drop (1 + 2 * j) c ≡ get_or c (1 + 2 * j) 0 ∷ drop (suc (1 + 2 * j)) c = drop-cons c (1 + 2 * j) 0 (omega arith) in
    let d2 : drop (2 + 2 * j) c ≡ get_or c (2 + 2 * j) 0 ∷ drop (suc (2 + 2 * j)) c = drop-cons c (2 + 2 * j) 0 (omega arith) in
    d1 ∙ rw (s1, ep, d2, ez, s2)

module _ (o k : ℕ) (ws : List ℕ) (net : Net o k ws) (l : List ℕ) (b : ℕ) (room : b ≤ length l) where
  -- A proof stands in the list from step i to step e, and has as many left premises as there are branches from j to m.
  pub record ReadProof (d : ℕ) (A : List ℕ) (x y : ℕ) (s : Sign) (i j e m : ℕ) : Type 0 where
    pub proof : Proof o k (A ++ ws) x y s
    pub deep : proof_depth proof ≤ d
    pub stepped : e ≡ i + proof_size proof
    pub branched : m ≡ j + left_steps proof
    pub said : drop (b + 3 * i) l ≡ proof_steps proof ++ drop (b + 3 * e) l

  -- Its branches stand in the contents from j to m.
  abbrev pub Listed : {Γ : List ℕ} {x y : ℕ} {s : Sign} → ℕ → ℕ → ℕ → Proof o k Γ x y s → Type 0
  Listed i j m p = drop (1 + 2 * j) (take b l) ≡ proof_branches b i p ++ drop (1 + 2 * m) (take b l)

  -- Step e is the first at fault of those from step i on.
  pub record FaultFrom (d : ℕ) (A : List ℕ) (x y : ℕ) (s : Sign) (i e : ℕ) : Type 0 where
    pub later : ℕ
    pub place : e ≡ i + later
    pub fault : Faulty o k d (A ++ ws) x y s (drop (b + 3 * i) l) later

  -- What a walk has come over is a proof; if all fits at the end then all fitted before, and its branches are in the contents. A fault is one.
  abbrev pub Reading : ℕ → List ℕ → ℕ → ℕ → Sign → ℕ → ℕ → Bool → Walked → Type 0
  Reading d A x y s i j t (Upto e m u) = (p : ReadProof d A x y s i j e m) × (u ≡ true → (t ≡ true) × Listed i j m p.proof)
  Reading d A x y s i j t (Fault e) = FaultFrom d A x y s i e
  Reading d A x y s i j t Cut = Unit {0}

  -- The step i of the list.
  abbrev At : ℕ → ℕ → ℕ → ℕ → Type 0
  At i r a w = drop (b + 3 * i) l ≡ r ∷ a ∷ w ∷ drop (b + 3 * suc i) l

  read_nothing : (d : ℕ) (A : List ℕ) (x y : ℕ) (s : Sign) (i j : ℕ) (t : Bool) (r a w : ℕ) → At i r a w → AxiomStep o k (A ++ ws) x y s r a w → Reading (suc d) A x y s i j t (Upto (suc i) j t)
  unfolding proof_size proof_depth left_steps proof_steps proof_branches
  read_nothing d A x y s i j t r a w h c = (
    record {
      proof = ax c.one c.listed;
      deep = omega arith;
      stepped = omega arith;
      branched = omega arith;
      said = h ∙ rw (c.rule, c.individual, c.link);
    },
    λ ok. (ok, refl),
  )

  read_one : (d : ℕ) (A : List ℕ) (x y : ℕ) (s : Sign) (i j : ℕ) (t : Bool) (r a w : ℕ) → At i r a w → RightStep o k (A ++ ws) x y s r a w
      → (z : Walked) → Reading d (word (o + k) x is ∷ A) (o + k) y s (suc i) j t z → Reading (suc d) A x y s i j t z
  unfolding proof_size proof_depth left_steps proof_steps proof_branches
  read_one d A x y s i j t r a w h c (Upto e m u) q =
      let p = q.0 in (
        record {
          proof = right c.kind c.fresh p.proof;
          deep = let z = p.deep in omega arith;
          stepped = let z = p.stepped in omega arith;
          branched = p.branched;
          said = h ∙ rw (c.rule, c.individual, c.link, p.said);
        },
        q.1,
      )
  read_one d A x y s i j t r a w h c (Fault e) q =
      record { later = suc q.later; place = let z = q.place in omega arith; fault = rw h (in_right c q.fault) }
  read_one d A x y s i j t r a w h c Cut q = tt

  -- The left premise, and then the main one.
  module _ (d : ℕ) (A : List ℕ) (x y : ℕ) (s : Sign) (i j : ℕ) (t : Bool) (r a w : ℕ) (h : At i r a w) (c : LeftStep o k (A ++ ws) r a w) where
    abbrev Left : Walked → Type 0
    Left z = Reading d A a (asks_kind c.which c.tail c.head) (asks_sign c.which) (suc i) (suc j) t z

    abbrev given : List ℕ
    given = word a (gives_kind c.which c.tail c.head) (gives_sign c.which) ∷ A

    read_main : (e m : ℕ) (u : Bool) → Left (Upto e m u) → (z : Walked) → Reading d given x y s e m (u && fits l b j (suc i) e) z → Reading (suc d) A x y s i j t z
    unfolding proof_size proof_depth left_steps proof_steps proof_branches
    read_main e m u f (Upto e' m' u') g =
        let p = f.0 in
        let q = g.0 in
        let es : e ≡ suc i + proof_size p.proof = p.stepped in
        let ez : e - suc i ≡ proof_size p.proof = omega arith in (
          record {
            proof = left c.which a c.tail c.head c.one c.low c.high c.listed p.proof q.proof;
            deep = let z = p.deep in let z' = q.deep in omega arith;
            stepped = let z = q.stepped in omega arith;
            branched = let z = p.branched in let z' = q.branched in omega arith;
            said = h ∙ rw (c.rule, c.link, p.said, q.said, append_assoc);
          },
          λ ok.
              let n = g.1 ok in
              let o1 = f.1 (and_left u (fits l b j (suc i) e) n.0) in
              let ft = and_right u (fits l b j (suc i) e) n.0 in
              let at = entry l b j (b + 3 * suc i) (e - suc i) room (and_left (holds l b (1 + 2 * j) (b + 3 * suc i)) (holds l b (2 + 2 * j) (e - suc i)) ft) (and_right (holds l b (1 + 2 * j) (b + 3 * suc i)) (holds l b (2 + 2 * j) (e - suc i)) ft) in
              (o1.0, at ∙ rw (o1.1, n.1, ez, ← es) (ap (λ z. (b + 3 * suc i) ∷ proof_size p.proof ∷ z) (sym (append_assoc (proof_branches b (suc i) p.proof) (proof_branches b e q.proof) (drop (1 + 2 * m') (take b l)))))),
        )
    read_main e m u f (Fault e') g =
        let p = f.0 in
        record {
          later = suc (proof_size p.proof + g.later);
          place = let z = g.place in let z' = p.stepped in omega arith;
          fault = rw h (in_main c p.proof p.deep p.said g.fault);
        }
    read_main e m u f Cut g = tt

    read_left : (z : Walked) → Left z → ((e m : ℕ) (u : Bool) → Reading d given x y s e m u (sequent o (o + k) ws l b d given (word x y s) e m u))
        → Reading (suc d) A x y s i j t (main_premise l b (sequent o (o + k) ws l b d) given (word x y s) (suc i) j z)
    unfolding main_premise
    read_left (Upto e m u) f again =
        read_main e m u f (sequent o (o + k) ws l b d given (word x y s) e m (u && fits l b j (suc i) e)) (again e m (u && fits l b j (suc i) e))
    read_left (Fault e) f again =
        record { later = suc f.later; place = let z = f.place in omega arith; fault = rw h (in_left c f.fault) }
    read_left Cut f again = tt

  -- ── the walk ──
  module _ (d : ℕ) (again : (A : List ℕ) (x y : ℕ) (s : Sign) (i j : ℕ) (t : Bool) → Kind o k y → Reading d A x y s i j t (sequent o (o + k) ws l b d A (word x y s) i j t)) where
    premises_read : (A : List ℕ) (x y : ℕ) (s : Sign) (i j : ℕ) (t : Bool) (r a w : ℕ) → Kind o k y → At i r a w → (z : Asks) → Asked o k ws net A x y s r a w z
        → Reading (suc d) A x y s i j t (premises l b (sequent o (o + k) ws l b d) A (word x y s) i j t z)
    unfolding premises
    premises_read A x y s i j t r a w hy h Broken c = record { later = 0; place = omega arith; fault = rw h (broken c) }
    premises_read A x y s i j t r a w hy h Nothing c = read_nothing d A x y s i j t r a w h c
    premises_read A x y s i j t r a w hy h (One v g) c =
        read_one d A x y s i j t r a w h c.step (sequent o (o + k) ws l b d (v ∷ A) g (suc i) j t)
        (rw (c.more, c.goal) (again (word (o + k) x is ∷ A) (o + k) y s (suc i) j t hy))
    premises_read A x y s i j t r a w hy h (Two g v) c =
        let n = c.step in
        rw (c.goal, c.more)
        (read_left d A x y s i j t r a w h n
        (sequent o (o + k) ws l b d A (word a (asks_kind n.which n.tail n.head) (asks_sign n.which)) (suc i) (suc j) t)
        (again A a (asks_kind n.which n.tail n.head) (asks_sign n.which) (suc i) (suc j) t (asks_kind_lem o k n.which n.low n.high))
        (λ e m u. again (word a (gives_kind n.which n.tail n.head) (gives_sign n.which) ∷ A) x y s e m u hy))

  step_at_lem : (i : ℕ) → i < (length l - b) / 3 → At i (get_or l (b + 3 * i) 0) (get_or l (b + 3 * i + 1) 0) (get_or l (b + 3 * i + 2) 0)
  step_at_lem i f = let n : b + 3 * i + 3 ≡ b + 3 * suc i = omega arith in three l (b + 3 * i) (omega arith) ∙ rw n

  pub sequent_read : (d : ℕ) (A : List ℕ) (x y : ℕ) (s : Sign) (i j : ℕ) (t : Bool) → Kind o k y → Reading d A x y s i j t (sequent o (o + k) ws l b d A (word x y s) i j t)
  unfolding sequent
  sequent_read zero A x y s i j t h = by_test (Reading zero A x y s i j t) (leb ((length l - b) / 3) i) Cut (Fault i) (λ e. tt)
      (λ e. record { later = 0; place = omega arith; fault = rw (step_at_lem i (leb-false ((length l - b) / 3) i e)) deep })
  sequent_read (suc d) A x y s i j t h =
      by_test (Reading (suc d) A x y s i j t) (leb ((length l - b) / 3) i) Cut _ (λ e. tt)
      (λ e.
      let r = get_or l (b + 3 * i) 0 in
      let a = get_or l (b + 3 * i + 1) 0 in
      let w = get_or l (b + 3 * i + 2) 0 in
      premises_read d (sequent_read d) A x y s i j t r a w h (step_at_lem i (leb-false ((length l - b) / 3) i e)) (asks o (o + k) ws A (word x y s) r a w) (asked o k ws net A x y s r a w h))
