-- A derivation is written in one way: what is read as lines that all have a ground is those lines as they are written.
use Prim.Native.Nat.{ℕ, suc, ◌*◌, ◌<◌}
use mathlib.Core.Path.{◌≡◌, refl, sym, ap, ◌∙◌}
use mathlib.Core.Bool.{Bool, true, false, cond, ◌&&◌}
use mathlib.Core.List.{List, [], ◌∷◌}
use native.Mathlib.Omega.{arith}
use native.Mathlib.Decide.{ℕ_discrete}
use borrow.Author.Tests.{eqb-true, ne_eqb}
use lib.Dec.{eqb}
use lib.ListN.{length, get_or}
use Rattle.theory_laws.proofs.Booleans.{and_left, and_right}
use Rattle.theory.proofs.completion.Ascending.{word_of_parts}
use Rattle.derivation_lines.specs.Lines.{Line, blank, Ground, link, r1, r3, none, Follows, by_link, by_1, by_2, by_3, by_4, by_5, Derivation}
use Rattle.derivation_lines.specs.Flat.{rule_of, one_of, two_of, flat, ground_at, lines_of}

-- A ground that asks for zeros has them.
pub zeros : (b : Bool) (g : Ground) → (cond b g none ≡ none → ⊥) → b ≡ true
zeros true g h = refl
zeros false g h = absurd (h refl)

-- The three numbers of a ground that is one.
pub record Numbers (r i j : ℕ) : Type 0 where
  pub rule : rule_of (ground_at r i j) ≡ r
  pub one : one_of (ground_at r i j) ≡ i
  pub two : two_of (ground_at r i j) ≡ j

pub ground_numbers : (r i j : ℕ) → (ground_at r i j ≡ none → ⊥) → Numbers r i j
ground_numbers r i j h = at_0 (ℕ_discrete r 0)
  where
    at_5 : (r ≡ 0 → ⊥) → (r ≡ 1 → ⊥) → (r ≡ 2 → ⊥) → (r ≡ 3 → ⊥) → (r ≡ 4 → ⊥) → Dec (r ≡ 5) → Numbers r i j
    at_5 a b c d e (yes f) = rw f (record { rule = refl; one = refl; two = refl })
    at_5 a b c d e (no f) = absurd (h (rw (ne_eqb r 0 a, ne_eqb r 1 b, ne_eqb r 2 c, ne_eqb r 3 d, ne_eqb r 4 e, ne_eqb r 5 f) refl))

    at_4 : (r ≡ 0 → ⊥) → (r ≡ 1 → ⊥) → (r ≡ 2 → ⊥) → (r ≡ 3 → ⊥) → Dec (r ≡ 4) → Numbers r i j
    at_4 a b c d (yes e) = rw e (record { rule = refl; one = refl; two = refl })
    at_4 a b c d (no e) = at_5 a b c d e (ℕ_discrete r 5)

    at_3 : (r ≡ 0 → ⊥) → (r ≡ 1 → ⊥) → (r ≡ 2 → ⊥) → Dec (r ≡ 3) → Numbers r i j
    at_3 a b c (yes d) = let z = eqb-true j 0 (zeros (eqb j 0) (r3 i) (rw d at h)) in rw (d, z) (record { rule = refl; one = refl; two = refl })
    at_3 a b c (no d) = at_4 a b c d (ℕ_discrete r 4)

    at_2 : (r ≡ 0 → ⊥) → (r ≡ 1 → ⊥) → Dec (r ≡ 2) → Numbers r i j
    at_2 a b (yes c) = rw c (record { rule = refl; one = refl; two = refl })
    at_2 a b (no c) = at_3 a b c (ℕ_discrete r 3)

    at_1 : (r ≡ 0 → ⊥) → Dec (r ≡ 1) → Numbers r i j
    at_1 a (yes b) =
        let z = zeros (eqb i 0 && eqb j 0) r1 (rw b at h) in
        let e = eqb-true i 0 (and_left (eqb i 0) _ z) in
        let f = eqb-true j 0 (and_right (eqb i 0) _ z) in
        rw (b, e, f) (record { rule = refl; one = refl; two = refl })
    at_1 a (no b) = at_2 a b (ℕ_discrete r 2)

    at_0 : Dec (r ≡ 0) → Numbers r i j
    at_0 (yes a) = let z = eqb-true j 0 (zeros (eqb j 0) (link i) (rw a at h)) in rw (a, z) (record { rule = refl; one = refl; two = refl })
    at_0 (no a) = at_1 a (ℕ_discrete r 1)

-- Whole lines that all have a ground.
pub grounded_back : (l : List ℕ) → length l ≡ 4 * length (lines_of l) → ((n : ℕ) → n < length (lines_of l) → (get_or (lines_of l) n blank).ground ≡ none → ⊥) → flat (lines_of l) ≡ l
unfolding flat lines_of
grounded_back [] e h = refl
grounded_back (w ∷ []) e h = absurd (omega arith)
grounded_back (w ∷ r ∷ []) e h = absurd (omega arith)
grounded_back (w ∷ r ∷ i ∷ []) e h = absurd (omega arith)
grounded_back (w ∷ r ∷ i ∷ j ∷ l) e h =
    let n = ground_numbers r i j (h 0 (omega arith)) in
    rw (word_of_parts w, n.rule, n.one, n.two, grounded_back l (omega arith) (λ m g. h (suc m) (omega arith)))

module _ (o k set : ℕ) (ws : List ℕ) where
  -- A line that follows has a ground.
  pub follows_grounded : (ls : List Line) (n : ℕ) (l : Line) → Follows o k set ws ls n l → l.ground ≡ none → ⊥
  follows_grounded ls n l (by_link i e w) h = let z : ◌≡◌ {A = ℕ} 0 6 = ap rule_of (sym e ∙ h) in omega arith
  follows_grounded ls n l (by_1 p e c) h = let z : ◌≡◌ {A = ℕ} 1 6 = ap rule_of (sym (ap (λ (m : Line). m.ground) e) ∙ h) in omega arith
  follows_grounded ls n l (by_2 x q r i j e c d a b) h = let z : ◌≡◌ {A = ℕ} 2 6 = ap rule_of (sym (ap (λ (m : Line). m.ground) e) ∙ h) in omega arith
  follows_grounded ls n l (by_3 p q i e c d a) h = let z : ◌≡◌ {A = ℕ} 3 6 = ap rule_of (sym (ap (λ (m : Line). m.ground) e) ∙ h) in omega arith
  follows_grounded ls n l (by_4 x q r i j e c d a b) h = let z : ◌≡◌ {A = ℕ} 4 6 = ap rule_of (sym (ap (λ (m : Line). m.ground) e) ∙ h) in omega arith
  follows_grounded ls n l (by_5 p q t i j e c d f a b) h = let z : ◌≡◌ {A = ℕ} 5 6 = ap rule_of (sym (ap (λ (m : Line). m.ground) e) ∙ h) in omega arith

  -- Numbers that are read as a derivation, with none left over, are that derivation as it is written.
  pub derivation_written : (l : List ℕ) → length l ≡ 4 * length (lines_of l) → Derivation o k set ws (lines_of l) → flat (lines_of l) ≡ l
  derivation_written l e d = grounded_back l e (λ n h. follows_grounded (lines_of l) n (get_or (lines_of l) n blank) (d n h))

  -- So two lists of numbers that are read as one derivation are the same.
  pub one_way : (l m : List ℕ) → length l ≡ 4 * length (lines_of l) → length m ≡ 4 * length (lines_of m) → Derivation o k set ws (lines_of l) → lines_of l ≡ lines_of m → l ≡ m
  one_way l m e f d g = sym (derivation_written l e d) ∙ ap flat g ∙ derivation_written m f (rw g at d)
