-- The end of the walk, and the check of a list, return by return.
use Rattle.proof_check.specs.declared.JudgeError.TheVariants.{Faulty, Refused}
use Rattle.std.specs.Prelude.{Err, Ok}
use Prim.Native.Nat.{ℕ, zero, suc, ◌+◌, ◌*◌, ◌≤◌, ◌<◌}
use mathlib.Core.Path.{◌≡◌, refl, sym, ap, ◌∙◌}
use mathlib.Core.Bool.{Bool, true, false}
use mathlib.Core.List.{List, [], ◌∷◌}
use native.Mathlib.Omega.{arith}
use native.Mathlib.Nat.{not-suc-le-zero}
use lib.ListN.{length, get_or}
use borrow.Author.Tests.{eq-eqb, ne_eqb, lt-ltb, le-ltb}
use Rattle.theory.specs.Words.{word, sign_at}
use Rattle.theory.specs.Nets.{Net}
use Rattle.theory.proofs.sequent.Measures.{fault_small}
use Rattle.net.specs.Clauses.{clause, call}
use Rattle.net.specs.Table.{bad_statement}
use Rattle.net.proofs.Good.{good_statement, good_kind}
use Rattle.proof_form.proofs.Accepted.{fault_exactly}
use Rattle.net.specs.declared.Refusal.TheVariants.{BadQuestion}
use Rattle.theory.specs.ProofFiles.{depth_limit, list_limit}
use Rattle.proof_form.specs.Checker.{fits, sequent, closing, check_proof}
use Rattle.proof_form.specs.declared.Walked.{Walked}
use Rattle.proof_form.specs.declared.Walked.TheVariants.{Upto, Fault, Cut}
use Rattle.proof_form.specs.declared.Found.{Found}
use Rattle.proof_form.specs.declared.Found.TheVariants.{Right, At, Nowhere}
use Rattle.proof_check.specs.Table.{Judged}
use Rattle.proof_check.specs.Table.{no_step, fault_clause, judged_clauses, judged_done}

module _ (l : List ℕ) (n b : ℕ) (z : Walked) where
  pub closing_fault : (i : ℕ) → z ≡ Fault i → At i ≡ closing l n b z
  unfolding closing
  closing_fault i e = rw e

  pub closing_cut : z ≡ Cut → Nowhere ≡ closing l n b z
  unfolding closing
  closing_cut e = rw e

  module _ (e j : ℕ) (t : Bool) (came : z ≡ Upto e j t) where
    pub closing_unfit : t ≡ false → Nowhere ≡ closing l n b z
    unfolding closing
    closing_unfit f = rw (came, f)

    pub closing_branches : t ≡ true → (j ≡ n → ⊥) → Nowhere ≡ closing l n b z
    unfolding closing
    closing_branches f g = rw (came, f, ne_eqb j n g)

    pub closing_length : t ≡ true → j ≡ n → (b + 3 * e ≡ length l → ⊥) → Nowhere ≡ closing l n b z
    unfolding closing
    closing_length f g h = rw (came, f, eq-eqb j n g, ne_eqb (b + 3 * e) (length l) h)

    pub closing_right : (r : Bool) → t ≡ true → j ≡ n → b + 3 * e ≡ length l → r ≡ fits l b 0 0 e → r ≡ true → Right ≡ closing l n b z
    unfolding closing
    closing_right r f g h k m = rw (came, f, eq-eqb j n g, eq-eqb (b + 3 * e) (length l) h, sym k ∙ m)

    pub closing_wrong : (r : Bool) → t ≡ true → j ≡ n → b + 3 * e ≡ length l → r ≡ fits l b 0 0 e → r ≡ false → Nowhere ≡ closing l n b z
    unfolding closing
    closing_wrong r f g h k m = rw (came, f, eq-eqb j n g, eq-eqb (b + 3 * e) (length l) h, sym k ∙ m)

module _ (o n : ℕ) (ws : List ℕ) (g : ℕ) where
  pub list_empty : (l : List ℕ) → length l ≡ 0 → Nowhere ≡ check_proof o n ws g l
  unfolding check_proof
  list_empty [] h = refl
  list_empty (m ∷ l) h = absurd (omega arith)

  pub list_long : (l : List ℕ) → 0 < length l → list_limit < length l → Nowhere ≡ check_proof o n ws g l
  unfolding check_proof
  list_long [] h k = absurd (not-suc-le-zero h)
  list_long (m ∷ l) h k = rw (lt-ltb list_limit (length (m ∷ l)) k)

  pub list_none : (l : List ℕ) (m : ℕ) → 0 < length l → length l ≤ list_limit → m ≡ get_or l 0 0 → m ≡ 0 → Nowhere ≡ check_proof o n ws g l
  unfolding check_proof
  list_none [] m h k e f = absurd (not-suc-le-zero h)
  list_none (v ∷ l) m h k e f = rw (le-ltb list_limit (length (v ∷ l)) k, eq-eqb v 0 (sym e ∙ f))

  pub list_short : (l : List ℕ) (m : ℕ) → 0 < length l → length l ≤ list_limit → m ≡ get_or l 0 0 → (m ≡ 0 → ⊥) → length l < 1 + 2 * m → Nowhere ≡ check_proof o n ws g l
  unfolding check_proof
  list_short [] m h k e f s = absurd (not-suc-le-zero h)
  list_short (v ∷ l) m h k e f s =
      rw (le-ltb list_limit (length (v ∷ l)) k, ne_eqb v 0 (λ z. f (e ∙ z)), lt-ltb (length (v ∷ l)) (suc (2 * v)) (omega (arith, s, e)))

  pub list_walked : (l : List ℕ) (m : ℕ) (z : Walked) (r : Found) → 0 < length l → length l ≤ list_limit → m ≡ get_or l 0 0 → (m ≡ 0 → ⊥) → 1 + 2 * m ≤ length l
      → z ≡ sequent o n ws l (1 + 2 * m) depth_limit [] g 0 1 true → r ≡ closing l m (1 + 2 * m) z → r ≡ check_proof o n ws g l
  unfolding check_proof
  list_walked [] m z r h k e f s ez er = absurd (not-suc-le-zero h)
  list_walked (v ∷ l) m z r h k e f s ez er =
      let b : 1 + 2 * m ≡ suc (2 * v) = omega (arith, e) in
      let q : r ≡ closing (v ∷ l) v (suc (2 * v)) (sequent o n ws (v ∷ l) (suc (2 * v)) depth_limit [] g 0 1 true) = rw (ez, b, e) at er in
      rw (le-ltb list_limit (length (v ∷ l)) k, ne_eqb v 0 (λ z. f (e ∙ z)), le-ltb (length (v ∷ l)) (suc (2 * v)) (omega (arith, s, e))) q

sign_word : (s : ℕ) → s ≤ 1 → (x y : ℕ) → word x y (sign_at s) ≡ x * 2048 + y * 2 + s
sign_word zero h x y = refl
sign_word (suc zero) h x y = refl
sign_word (suc (suc s)) h x y = absurd (omega arith)

-- ── the statement, and what was found in the list ──
abbrev pub judged_found : Found → Judged
judged_found Right = Ok tt
judged_found (At i) = Err (Faulty i)
judged_found Nowhere = Err (Faulty no_step)

pub judged_found_lem : (bad : Bool) (z : Found) → bad ≡ false → judged_found z ≡ call (clause 4 bad (Err (Refused BadQuestion)) ∷ fault_clause z ∷ []) judged_done
judged_found_lem bad Right e = rw e
judged_found_lem bad (At i) e = rw e
judged_found_lem bad Nowhere e = rw e

module _ (o k n : ℕ) (ws : List ℕ) (x y s : ℕ) (l : List ℕ) (en : n ≡ o + k) (net : Net o k ws) (good : bad_statement o n x y s ≡ false) where
  pub stated : (x < n) × (y < n) × (s ≤ 1)
  stated = let g = (good_statement o n x y s).0 good in (g.pair.node, g.pair.high, g.signed)

  module _ (g : ℕ) (eg : g ≡ x * 2048 + y * 2 + s) (z : Found) (ez : z ≡ check_proof o n ws g l) where
    goal_found : z ≡ check_proof o n ws (word x y (sign_at s)) l
    goal_found = rw (sign_word s stated.2 x y, ← eg) ez

    pub statement_found : {j : Judged} → j ≡ judged_found z → j ≡ call (judged_clauses o ws x y s l n) judged_done
    statement_found e = e ∙ (judged_found_lem (bad_statement o n x y s) z good ∙ ap (λ w. call (clause 4 (bad_statement o n x y s) (Err (Refused BadQuestion)) ∷ fault_clause w ∷ []) judged_done) goal_found)

    -- A step at fault is a u32.
    pub fault_fits : (i : ℕ) → z ≡ At i → i < list_limit
    fault_fits i f =
        let p = (good_statement o (o + k) x y s).0 (rw en at good) in
        let e : check_proof o (o + k) ws (word x y (sign_at s)) l ≡ At i = rw (← en) (sym goal_found ∙ f) in
        fault_small ((fault_exactly o k ws net x y (sign_at s) (good_kind p.pair) l i).0 e)
