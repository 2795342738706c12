-- The grounds of a line, rule by rule, in the terms of the code.
use Prim.Native.Nat.{ℕ}
use mathlib.Core.Path.{◌≡◌, refl, sym}
use mathlib.Core.Bool.{Bool, true, false, cond, ◌&&◌}
use mathlib.Core.List.{List}
use native.Mathlib.Omega.{arith}
use borrow.Author.Tests.{ne_eqb}
use lib.Dec.{eqb}
use Rattle.theory.specs.Words.{is, isnt, sign_number, tail_of, head_of, parity, sign_of}
use Rattle.derivation_lines.specs.Lines.{Ground, link, r1, r3, none}
use Rattle.derivation_lines.specs.Tests.{is_kind, word_says, is_above, grounds}
use Rattle.derivation_lines.specs.Flat.{ground_at, lines_of}
use Rattle.theory_laws.proofs.Booleans.{and_assoc}
use Rattle.derivation_lines.proofs.Flatness.{sign_number_lem}
use Rattle.derivation_check_line.specs.Parts.{chained, lowered}

module _ (o k set : ℕ) (ws l : List ℕ) (n w r i j : ℕ) where
  -- The code's test of the line's ground.
  abbrev Says : Bool → Type 0
  Says b = b ≡ grounds o k set ws (lines_of l) n (tail_of w) (head_of w) (sign_of w) (ground_at r i j)

  sign : sign_number (sign_of w) ≡ parity w
  sign = sign_number_lem (parity w) (omega arith)

  -- A ground that asks for zeros.
  zeros : (b : Bool) (g : Ground)
      → grounds o k set ws (lines_of l) n (tail_of w) (head_of w) (sign_of w) (cond b g none) ≡ (b && grounds o k set ws (lines_of l) n (tail_of w) (head_of w) (sign_of w) g)
  unfolding grounds
  zeros true g = refl
  zeros false g = refl

  pub by_link : r ≡ 0 → {b : Bool} → b ≡ word_says set ws i (tail_of w) (head_of w) (sign_of w) → Says (eqb j 0 && b)
  unfolding grounds
  by_link e f = rw (e, f) (sym (zeros (eqb j 0) (link i)))

  pub by_itself : r ≡ 1 → {t h : ℕ} {b : Bool} → t ≡ tail_of w → h ≡ head_of w → b ≡ is_kind o k t → Says ((eqb i 0 && eqb j 0) && (eqb (parity w) 0 && (eqb t h && b)))
  unfolding grounds
  by_itself e f g q = rw (e, zeros (eqb i 0 && eqb j 0) r1, q, f, g, sign)

  pub by_chain_is : r ≡ 2 → {t h : ℕ} {b : Bool} → t ≡ tail_of w → h ≡ head_of w → b ≡ chained o k (lines_of l) n t h is i j → Says (eqb (parity w) 0 && b)
  unfolding grounds chained
  by_chain_is e f g q = rw (e, q, f, g, sign)

  pub by_turn : r ≡ 3 → {t h : ℕ} {a b c : Bool} → t ≡ tail_of w → h ≡ head_of w → a ≡ is_kind o k h → b ≡ is_kind o k t → c ≡ is_above (lines_of l) n i h t isnt
      → Says (eqb j 0 && (eqb (parity w) 1 && ((a && b) && c)))
  unfolding grounds
  by_turn e {a = a} {b = b} {c = c} f g p q s = rw (e, zeros (eqb j 0) (r3 i), and_assoc a b c, p, q, s, f, g, sign)

  pub by_chain_isnt : r ≡ 4 → {t h : ℕ} {b : Bool} → t ≡ tail_of w → h ≡ head_of w → b ≡ chained o k (lines_of l) n t h isnt i j → Says (eqb (parity w) 1 && b)
  unfolding grounds chained
  by_chain_isnt e f g q = rw (e, q, f, g, sign)

  pub by_object : r ≡ 5 → {t h : ℕ} {b : Bool} → t ≡ tail_of w → h ≡ head_of w → b ≡ lowered o k (lines_of l) n t h i j → Says (eqb (parity w) 1 && b)
  unfolding grounds lowered
  by_object e f g q = rw (e, q, f, g, sign)

  pub by_none : (r ≡ 0 → ⊥) → (r ≡ 1 → ⊥) → (r ≡ 2 → ⊥) → (r ≡ 3 → ⊥) → (r ≡ 4 → ⊥) → (r ≡ 5 → ⊥) → Says false
  unfolding grounds
  by_none a b c d e f = rw (ne_eqb r 0 a, ne_eqb r 1 b, ne_eqb r 2 c, ne_eqb r 3 d, ne_eqb r 4 e, ne_eqb r 5 f)
