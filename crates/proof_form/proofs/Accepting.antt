-- The walk comes over a proof without a fault, and finds that its branches fit; over steps of which one is at fault it comes to that one.
use Prim.Native.Nat.{ℕ, zero, suc, ◌+◌, ◌-◌, ◌*◌, ◌/◌, ◌≤◌, ◌<◌}
use mathlib.Core.Path.{◌≡◌, refl, sym, ap, ◌∙◌}
use mathlib.Core.Bool.{Bool, true, false, ◌&&◌}
use mathlib.Core.List.{List, [], ◌∷◌, ◌++◌, append_assoc}
use native.Mathlib.Omega.{arith}
use lib.Dec.{eqb, ltb, leb}
use lib.ListN.{length, get_or, take, drop, length-drop}
use lib.Seq.{length-take-le, get_or-take, get_or-drop, drop-drop, drop-append_seam}
use borrow.Author.Tests.{eq-eqb, lt-ltb, lt-leb}
use Rattle.theory_laws.proofs.Booleans.{and_both}
use Rattle.theory.specs.Words.{Sign, is, sign_number, word}
use Rattle.theory.specs.Nets.{Kind, Net}
use Rattle.theory.specs.Sequents.{uses, gives_kind, gives_sign, Proof, ax, right, left}
use Rattle.theory.specs.ProofFiles.{rule_of, proof_size, proof_depth, left_steps, proof_steps, proof_branches, Faulty, deep, broken, in_right, in_left, in_main}
use Rattle.proof_form.specs.Checker.{asks, holds, fits, main_premise, premises, sequent}
use Rattle.proof_form.specs.declared.Walked.TheVariants.{Upto, Fault}
use Rattle.theory.proofs.sequent.Sound.{asks_kind_lem}
use Rattle.theory.proofs.sequent.Measures.{length_steps, length_branches, depth_one}
use Rattle.proof_form.proofs.Asking.{asks_nothing, asks_one, asks_two, asks_broken}

-- What stands behind a part of a list.
pub past : (l xs ys : List ℕ) (p q : ℕ) → drop p l ≡ xs ++ ys → q ≡ p + length xs → drop q l ≡ ys
past l xs ys p q e f = rw f (sym (drop-drop (length xs) p l) ∙ (ap (drop (length xs)) e ∙ drop-append_seam xs ys))

-- Numbers that stand in a list from place p on.
pub first_at : (l : List ℕ) (p a : ℕ) (ys : List ℕ) → drop p l ≡ a ∷ ys → get_or l p 0 ≡ a
first_at l p a ys e = let n : p + 0 ≡ p = omega arith in rw n at (sym (get_or-drop p l 0 0) ∙ ap (λ z. get_or z 0 0) e)

pub second_at : (l : List ℕ) (p a c : ℕ) (ys : List ℕ) → drop p l ≡ a ∷ c ∷ ys → get_or l (p + 1) 0 ≡ c
second_at l p a c ys e = sym (get_or-drop p l 1 0) ∙ ap (λ z. get_or z 1 0) e

third_at : (l : List ℕ) (p a c f : ℕ) (ys : List ℕ) → drop p l ≡ a ∷ c ∷ f ∷ ys → get_or l (p + 2) 0 ≡ f
third_at l p a c f ys e = sym (get_or-drop p l 2 0) ∙ ap (λ z. get_or z 2 0) e

long : (l ys : List ℕ) (p : ℕ) → drop p l ≡ ys → length l - p ≡ length ys
long l ys p e = sym (length-drop p l) ∙ ap length e

module _ (o k : ℕ) (ws : List ℕ) (net : Net o k ws) (l : List ℕ) (b : ℕ) (room : b ≤ length l) where
  -- Three numbers at step i are no cut.
  no_cut : (i r a w : ℕ) (ys : List ℕ) → drop (b + 3 * i) l ≡ r ∷ a ∷ w ∷ ys → leb ((length l - b) / 3) i ≡ false
  no_cut i r a w ys e = let n = long l (r ∷ a ∷ w ∷ ys) (b + 3 * i) e in lt-leb ((length l - b) / 3) i (omega arith)

  -- One step: what it asks for decides.
  step_walked : (d : ℕ) (A : List ℕ) (g i j : ℕ) (t : Bool) (r a w : ℕ) (ys : List ℕ) → drop (b + 3 * i) l ≡ r ∷ a ∷ w ∷ ys
      → sequent o (o + k) ws l b (suc d) A g i j t ≡ premises l b (sequent o (o + k) ws l b d) A g i j t (asks o (o + k) ws A g r a w)
  unfolding sequent
  step_walked d A g i j t r a w ys e =
      rw (no_cut i r a w ys e, first_at l (b + 3 * i) r (a ∷ w ∷ ys) e, second_at l (b + 3 * i) r a (w ∷ ys) e, third_at l (b + 3 * i) r a w ys e)

  held : (at v z : ℕ) → at < b → get_or (take b l) at 0 ≡ v → v ≡ z → holds l b at z ≡ true
  held at v z h e f = and_both (ltb at b) (eqb (get_or l at 0) z) (lt-ltb at b h) (eq-eqb _ _ (sym (get_or-take b l at 0 h) ∙ (e ∙ f)))

  pub fitted : (j p z i e : ℕ) (ys : List ℕ) → drop (1 + 2 * j) (take b l) ≡ p ∷ z ∷ ys → p ≡ b + 3 * i → e ≡ i + z → fits l b j i e ≡ true
  fitted j p z i e ys h f g =
      let c = take b l in
      let m = length-take-le b l room in
      let n = long c (p ∷ z ∷ ys) (1 + 2 * j) h in
      let s : 1 + 2 * j + 1 ≡ 2 + 2 * j = omega arith in
      let q : get_or c (2 + 2 * j) 0 ≡ z = rw s at (second_at c (1 + 2 * j) p z ys h) in
      and_both (holds l b (1 + 2 * j) (b + 3 * i)) (holds l b (2 + 2 * j) (e - i))
      (held (1 + 2 * j) p (b + 3 * i) (omega arith) (first_at c (1 + 2 * j) p (z ∷ ys) h) f)
      (held (2 + 2 * j) z (e - i) (omega arith) q (omega arith))

  and_true : (t u : Bool) → u ≡ true → (t && u) ≡ t
  and_true true u e = e
  and_true false u e = refl

  -- The walk over a proof comes to its end. If its branches stand in the contents, then nothing is found that does not fit.
  pub record Walks {Γ : List ℕ} {x y : ℕ} {s : Sign} (p : Proof o k Γ x y s) (A : List ℕ) (d i j : ℕ) (t : Bool) : Type 0 where
    pub fit : Bool
    pub walked : sequent o (o + k) ws l b d A (word x y s) i j t ≡ Upto (i + proof_size p) (j + left_steps p) fit
    pub kept : (v : List ℕ) → drop (1 + 2 * j) (take b l) ≡ proof_branches b i p ++ v → fit ≡ t

  pub walks : {Γ : List ℕ} {x y : ℕ} {s : Sign} (p : Proof o k Γ x y s) (A : List ℕ) → Γ ≡ A ++ ws → Kind o k y → (d i j : ℕ) (t : Bool) (u : List ℕ) → proof_depth p ≤ d
      → drop (b + 3 * i) l ≡ proof_steps p ++ u → Walks p A d i j t
  unfolding proof_size proof_depth left_steps proof_steps proof_branches premises main_premise
  walks {Γ = Γ} p A e h zero i j t u hd hs = let z = depth_one p in absurd (omega arith)
  walks {Γ = Γ} (ax {a = a} {p = p} {s = s} n m) A e h (suc d) i j t u hd hs =
      let n1 : i + 1 ≡ suc i = omega arith in
      let n2 : j + 0 ≡ j = omega arith in
      record {
        fit = t;
        walked = step_walked d A (word a p s) i j t (sign_number s) a (word a p s) u hs ∙ rw (asks_nothing o k ws net A a p s h n (rw e at m), n1, n2);
        kept = λ v hb. refl;
      }
  walks {Γ = Γ} (right {p = p} {q = q} {s = s} hp f c) A e h (suc d) i j t u hd hs =
      let g = word p q s in
      let after : drop (b + 3 * suc i) l ≡ proof_steps c ++ u = past l ((2 + sign_number s) ∷ (o + k) ∷ g ∷ []) (proof_steps c ++ u) (b + 3 * i) (b + 3 * suc i) hs (omega arith) in
      let more : word (o + k) p is ∷ Γ ≡ (word (o + k) p is ∷ A) ++ ws = ap (λ z. word (o + k) p is ∷ z) e in
      let again = walks {Γ = word (o + k) p is ∷ Γ} c (word (o + k) p is ∷ A) more h d (suc i) j t u (omega arith) after in
      let n : i + suc (proof_size c) ≡ suc i + proof_size c = omega arith in
      record {
        fit = again.fit;
        walked = step_walked d A g i j t (2 + sign_number s) (o + k) g (proof_steps c ++ u) hs ∙ rw (asks_one o k ws net A p q s h hp (rw e at f), n) again.walked;
        kept = again.kept;
      }
  walks {Γ = Γ} (left {x = x} {y = y} {s = s} r a p q n hp hq m c c') A e h (suc d) i j t u hd hs =
      let w = word p q (uses r) in
      let w' = word a (gives_kind r p q) (gives_sign r) in
      let e1 = suc i + proof_size c in
      let j1 = suc j + left_steps c in
      let s1 : drop (b + 3 * suc i) l ≡ (proof_steps c ++ proof_steps c') ++ u = past l (rule_of r ∷ a ∷ w ∷ []) ((proof_steps c ++ proof_steps c') ++ u) (b + 3 * i) (b + 3 * suc i) hs (omega arith) in
      let s2 : drop (b + 3 * suc i) l ≡ proof_steps c ++ (proof_steps c' ++ u) = s1 ∙ append_assoc (proof_steps c) (proof_steps c') u in
      let ls = length_steps c in
      let s3 : drop (b + 3 * e1) l ≡ proof_steps c' ++ u = past l (proof_steps c) (proof_steps c' ++ u) (b + 3 * suc i) (b + 3 * e1) s2 (omega arith) in
      let first = walks {Γ = Γ} c A e (asks_kind_lem o k r hp hq) d (suc i) (suc j) t (proof_steps c' ++ u) (omega arith) s2 in
      let more : w' ∷ Γ ≡ (w' ∷ A) ++ ws = ap (λ z. w' ∷ z) e in
      let second = walks {Γ = w' ∷ Γ} c' (w' ∷ A) more h d e1 j1 (first.fit && fits l b j (suc i) e1) u (omega arith) s3 in
      let n1 : i + suc (proof_size c + proof_size c') ≡ e1 + proof_size c' = omega arith in
      let n2 : j + suc (left_steps c + left_steps c') ≡ j1 + left_steps c' = omega arith in
      let bs = proof_branches b (suc i) c in
      let bs' = proof_branches b e1 c' in
      let lb = length_branches b (suc i) c in
      record {
        fit = second.fit;
        walked = step_walked d A (word x y s) i j t (rule_of r) a w ((proof_steps c ++ proof_steps c') ++ u) hs
            ∙ rw (asks_two o k ws net A (word x y s) r a p q n hp hq (rw e at m), first.walked, n1, n2) second.walked;
        kept = λ v hb.
            let b1 : drop (1 + 2 * suc j) (take b l) ≡ (bs ++ bs') ++ v = past (take b l) ((b + 3 * suc i) ∷ proof_size c ∷ []) ((bs ++ bs') ++ v) (1 + 2 * j) (1 + 2 * suc j) hb (omega arith) in
            let b2 : drop (1 + 2 * suc j) (take b l) ≡ bs ++ (bs' ++ v) = b1 ∙ append_assoc bs bs' v in
            let b3 : drop (1 + 2 * j1) (take b l) ≡ bs' ++ v = past (take b l) bs (bs' ++ v) (1 + 2 * suc j) (1 + 2 * j1) b2 (omega arith) in
            let fit : fits l b j (suc i) e1 ≡ true = fitted j (b + 3 * suc i) (proof_size c) (suc i) e1 ((bs ++ bs') ++ v) hb refl refl in
            second.kept v b3 ∙ (and_true first.fit (fits l b j (suc i) e1) fit ∙ first.kept (bs' ++ v) b2);
      }

  -- The walk over steps of which one is at fault comes to that step.
  pub faults : {d : ℕ} {Γ : List ℕ} {x y : ℕ} {s : Sign} {m : List ℕ} {n : ℕ} → Faulty o k d Γ x y s m n → (A : List ℕ) → Γ ≡ A ++ ws → Kind o k y → (i j : ℕ) (t : Bool) → drop (b + 3 * i) l ≡ m
      → sequent o (o + k) ws l b d A (word x y s) i j t ≡ Fault (i + n)
  unfolding sequent premises main_premise
  faults (deep {r = r} {a = a} {w = w} {l = l'}) A e h i j t hs = let z : i + 0 ≡ i = omega arith in rw (no_cut i r a w l' hs, z)
  faults (broken {d = d} {x = x} {y = y} {s = s} {r = r} {a = a} {w = w} {l = l'} c) A e h i j t hs =
      let z : i + 0 ≡ i = omega arith in
      step_walked d A (word x y s) i j t r a w l' hs ∙ rw (asks_broken o k ws net A x y s r a w h (rw e at c), z)
  faults (in_right {d = d} {x = x} {y = y} {s = s} {r = r} {a = a} {w = w} {i = n} {l = l'} c f) A e h i j t hs =
      let z : i + suc n ≡ suc i + n = omega arith in
      let after : drop (b + 3 * suc i) l ≡ l' = past l (r ∷ a ∷ w ∷ []) l' (b + 3 * i) (b + 3 * suc i) hs (omega arith) in
      let more : word (o + k) x is ∷ _ ≡ (word (o + k) x is ∷ A) ++ ws = ap (λ z. word (o + k) x is ∷ z) e in
      step_walked d A (word x y s) i j t r a w l' hs
      ∙ rw (c.rule, c.individual, c.link, asks_one o k ws net A x y s h c.kind (rw e at c.fresh), z) (faults f (word (o + k) x is ∷ A) more h (suc i) j t after)
  faults (in_left {d = d} {x = x} {y = y} {s = s} {r = r} {a = a} {w = w} {i = n} {l = l'} c f) A e h i j t hs =
      let z : i + suc n ≡ suc i + n = omega arith in
      let after : drop (b + 3 * suc i) l ≡ l' = past l (r ∷ a ∷ w ∷ []) l' (b + 3 * i) (b + 3 * suc i) hs (omega arith) in
      let again = faults f A e (asks_kind_lem o k c.which c.low c.high) (suc i) (suc j) t after in
      step_walked d A (word x y s) i j t r a w l' hs
      ∙ rw (c.rule, c.link, asks_two o k ws net A (word x y s) c.which a c.tail c.head c.one c.low c.high (rw e at c.listed), again, z)
  faults (in_main {d = d} {x = x} {y = y} {s = s} {r = r} {a = a} {w = w} {i = n} {l = l'} {m = m} c p hd ep f) A e h i j t hs =
      let w' = word a (gives_kind c.which c.tail c.head) (gives_sign c.which) in
      let z : i + suc (proof_size p + n) ≡ suc i + proof_size p + n = omega arith in
      let after : drop (b + 3 * suc i) l ≡ proof_steps p ++ m = past l (r ∷ a ∷ w ∷ []) l' (b + 3 * i) (b + 3 * suc i) hs (omega arith) ∙ ep in
      let ls = length_steps p in
      let behind : drop (b + 3 * (suc i + proof_size p)) l ≡ m = past l (proof_steps p) m (b + 3 * suc i) (b + 3 * (suc i + proof_size p)) after (omega arith) in
      let first = walks p A e (asks_kind_lem o k c.which c.low c.high) d (suc i) (suc j) t m hd after in
      let more : w' ∷ _ ≡ (w' ∷ A) ++ ws = ap (λ z. w' ∷ z) e in
      let again = faults f (w' ∷ A) more h (suc i + proof_size p) (suc j + left_steps p) (first.fit && fits l b j (suc i) (suc i + proof_size p)) behind in
      step_walked d A (word x y s) i j t r a w l' hs
      ∙ rw (c.rule, c.link, asks_two o k ws net A (word x y s) c.which a c.tail c.head c.one c.low c.high (rw e at c.listed), first.walked, again, z)
