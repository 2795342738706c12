-- Each answer of the test of a word, exactly when it is given.
use Rattle.std.specs.Prelude.{Err, Ok}
use Prim.Native.Nat.{ℕ, ◌+◌, ◌<◌, ◌≤◌}
use mathlib.Core.Path.{◌≡◌, refl, sym, ap, ◌∙◌}
use mathlib.Core.Bool.{Bool, true, false, cond, not}
use mathlib.Core.Logic.{◌↔◌}
use borrow.Author.Tests.{ltb-true, lt-ltb, le-ltb, eqb-false}
use lib.Dec.{ltb, eqb}
use Rattle.theory_laws.proofs.Booleans.{contradiction}
use Rattle.theory.specs.Words.{node_limit}
use Rattle.theory.specs.Origins.{origin_limit, LegalFrom}
use Rattle.net_word.specs.Legal.{legal_from, Because, cause_of}
use Rattle.net_word.specs.declared.Cause.{Cause}
use Rattle.net_word.proofs.Legality.{legal_from_means}
use Rattle.net_word.proofs.Causes.{one_cause, because_illegal, cause_exactly}
use Rattle.net.specs.Table.{illegal_at}
use Rattle.net.specs.declared.Refusal.TheVariants.{TooManyNodes, IllegalWord}
use Rattle.check_word.specs.Table.{check_word, word_reply}
use Rattle.check_word.specs.Table.{WordChecked}

-- Answers with different numbers differ.
apart : {A : Type 0} {p q : WordChecked} → p ≡ q → eqb (word_reply p).number (word_reply q).number ≡ false → A
apart {p = p} {q = q} e d = absurd (eqb-false (word_reply p).number (word_reply q).number d (ap (λ (a : WordChecked). (word_reply a).number) e))

module _ (o k w : ℕ) where
  -- What the two tests give.
  told : Bool → Bool → WordChecked
  told many fine = cond many (Err TooManyNodes) (cond (not fine) (Err (illegal_at (o + k) 0 w)) (Ok tt))

  is_many : (many fine : Bool) → told many fine ≡ Err TooManyNodes → many ≡ true
  unfolding told
  is_many true fine e = refl
  is_many false true e = apart e refl
  is_many false false e = apart e refl

  is_legal : (fine : Bool) → told false fine ≡ Ok tt → fine ≡ true
  unfolding told
  is_legal true e = refl
  is_legal false e = apart e refl

  is_cause : (fine : Bool) (c : Cause) → told false fine ≡ Err (IllegalWord 0 c) → (fine ≡ false) × (cause_of (o + k) w ≡ c)
  unfolding told
  is_cause true c e = apart e refl
  is_cause false c e = (refl, one_cause (cause_of (o + k) w) c (ap (λ (a : WordChecked). (word_reply a).second) e))

  -- Number 1 exactly if there are too many nodes.
  pub word_nodes_exactly : (check_word o k w ≡ Err TooManyNodes) ↔ (node_limit < o + k)
  unfolding told
  word_nodes_exactly = ((λ e. ltb-true node_limit (o + k) (is_many (ltb node_limit (o + k)) (legal_from origin_limit o (o + k) w) e)), λ h. rw (lt-ltb node_limit (o + k) h))

  module _ (few : o + k ≤ node_limit) where
    -- No cause exactly if the word is legal.
    pub word_legal_exactly : (check_word o k w ≡ Ok tt) ↔ LegalFrom o k w
    unfolding told
    word_legal_exactly = (
      (λ e. (legal_from_means o k w).0 (is_legal (legal_from origin_limit o (o + k) w) (rw (le-ltb node_limit (o + k) few) at e))),
      λ l. rw (le-ltb node_limit (o + k) few, (legal_from_means o k w).1 l),
    )

    -- Cause 3 exactly if the origin is above 3; else cause 1 exactly if the tail is no node, and cause 2 exactly if it is one and the head no kind.
    pub word_cause_exactly : (c : Cause) → (check_word o k w ≡ Err (IllegalWord 0 c)) ↔ Because o k w c
    unfolding told
    word_cause_exactly c = (there, back)
      where
        illegal : legal_from origin_limit o (o + k) w ≡ false → LegalFrom o k w → ⊥
        illegal e l = contradiction (sym e ∙ (legal_from_means o k w).1 l)

        there : check_word o k w ≡ Err (IllegalWord 0 c) → Because o k w c
        there e =
            let t = is_cause (legal_from origin_limit o (o + k) w) c (rw (le-ltb node_limit (o + k) few) at e) in
            (cause_exactly o k w (illegal t.0) c).0 t.1

        back : Because o k w c → check_word o k w ≡ Err (IllegalWord 0 c)
        back b =
            let no : legal_from origin_limit o (o + k) w ≡ false = fails (legal_from origin_limit o (o + k) w) refl b in
            rw (le-ltb node_limit (o + k) few, no) (ap (λ (d : Cause). Err (IllegalWord 0 d)) ((cause_exactly o k w (because_illegal o k w c b) c).1 b))
          where
            fails : (q : Bool) → legal_from origin_limit o (o + k) w ≡ q → Because o k w c → q ≡ false
            fails true e b = absurd (because_illegal o k w c b ((legal_from_means o k w).0 e))
            fails false e b = refl
