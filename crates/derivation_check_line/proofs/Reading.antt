-- The tests of lines, in the terms of the code that reads them out of a list of numbers.
use Prim.Native.Nat.{ℕ, ◌*◌, ◌<◌, ◌≤◌}
use mathlib.Core.Path.{◌≡◌, refl, sym, ap, ◌∙◌}
use mathlib.Core.Bool.{Bool, true, false, ◌&&◌}
use mathlib.Core.List.{List}
use native.Mathlib.Omega.{arith}
use lib.Dec.{eqb, ltb}
use lib.ListN.{length, get_or}
use borrow.Author.Tests.{lt-ltb, le-ltb, eqb-true, eq-eqb}
use Rattle.theory.specs.Words.{Sign, is, isnt, sign_at, tail_of, head_of, parity, sign_of}
use Rattle.theory.specs.Origins.{plain_of, chooses}
use Rattle.derivation_lines.specs.Lines.{blank}
use Rattle.derivation_lines.specs.Tests.{is_kind, word_says, is_above}
use Rattle.derivation_lines.specs.Flat.{lines_of}
use Rattle.theory_laws.proofs.Booleans.{and_left, and_right, and_both, and_false, and_assoc, same_test}
use Rattle.theory.proofs.completion.Ascending.{sign_at_number, word_of_parts}
use Rattle.derivation_lines.proofs.Flatness.{sign_number_lem, line_read}
use Rattle.derivation_lines.proofs.Checking.{decides_word}
use Rattle.derivation_check_line.specs.Parts.{chained, lowered}

module _ (l : List ℕ) (n j x y sign : ℕ) where
  -- No line stands there.
  pub not_above : n ≤ j → false ≡ is_above (lines_of l) n j x y (sign_at sign)
  not_above h = rw (le-ltb j n h)

  -- The word of a line above says what is asked, or not.
  pub above_read : sign ≤ 1 → 4 * n ≤ length l → j < n → {t h : ℕ} → t ≡ tail_of (get_or l (4 * j) 0) → h ≡ head_of (get_or l (4 * j) 0)
      → (eqb t x && (eqb h y && eqb (parity (get_or l (4 * j) 0)) sign)) ≡ is_above (lines_of l) n j x y (sign_at sign)
  above_read s r i e f = rw (lt-ltb j n i, line_read l j (omega arith), sign_number_lem sign s, sign_number_lem (parity (get_or l (4 * j) 0)) (omega arith), e, f)

-- The head of a line above.
pub middle_read : (l : List ℕ) (n i : ℕ) → 4 * n ≤ length l → i < n → head_of (get_or l (4 * i) 0) ≡ (get_or (lines_of l) i blank).head
middle_read l n i h j = rw (line_read l i (omega arith)) refl

module _ (o k : ℕ) (l : List ℕ) (n x y i j : ℕ) where
  -- Where the line named first stands not above, neither (3.2), (3.4) nor (3.5) is used rightly.
  pub no_chain : (s : Sign) → n ≤ i → false ≡ chained o k (lines_of l) n x y s i j
  unfolding chained
  no_chain s h = rw (le-ltb i n h, and_false (is_kind o k y), and_false (is_kind o k (get_or (lines_of l) i blank).head))

  pub no_lowered : n ≤ i → false ≡ lowered o k (lines_of l) n x y i j
  unfolding lowered
  no_lowered h = rw (le-ltb i n h, and_false (ltb x o), and_false (is_kind o k (get_or (lines_of l) i blank).head), and_false (is_kind o k y))

  module _ (room : 4 * n ≤ length l) (above : i < n) {q : ℕ} (middle : q ≡ head_of (get_or l (4 * i) 0)) where
    at_middle : q ≡ (get_or (lines_of l) i blank).head
    at_middle = middle ∙ middle_read l n i room above

    pub chain_read : (s : Sign) {a b c d : Bool} → a ≡ is_kind o k q → b ≡ is_kind o k y → c ≡ is_above (lines_of l) n i x q is → d ≡ is_above (lines_of l) n j q y s
        → ((a && b) && (c && d)) ≡ chained o k (lines_of l) n x y s i j
    unfolding chained
    chain_read s {a} {b} {c} {d} ea eb ec ed =
        let h = (get_or (lines_of l) i blank).head in
        let fa : a ≡ is_kind o k h = ea ∙ ap (λ (z : ℕ). is_kind o k z) at_middle in
        let fc : c ≡ is_above (lines_of l) n i x h is = ec ∙ ap (λ (z : ℕ). is_above (lines_of l) n i x z is) at_middle in
        let fd : d ≡ is_above (lines_of l) n j h y s = ed ∙ ap (λ (z : ℕ). is_above (lines_of l) n j z y s) at_middle in
        and_assoc a b (c && d) ∙ cc

    pub lowered_read : {a b t c d : Bool} → a ≡ is_kind o k y → b ≡ is_kind o k q → t ≡ ltb x o → c ≡ is_above (lines_of l) n i y q is → d ≡ is_above (lines_of l) n j x q isnt
        → ((a && b) && (t && (c && d))) ≡ lowered o k (lines_of l) n x y i j
    unfolding lowered
    lowered_read {a} {b} {t} {c} {d} ea eb et ec ed =
        let h = (get_or (lines_of l) i blank).head in
        let fb : b ≡ is_kind o k h = eb ∙ ap (λ (z : ℕ). is_kind o k z) at_middle in
        let fc : c ≡ is_above (lines_of l) n i y h is = ec ∙ ap (λ (z : ℕ). is_above (lines_of l) n i y z is) at_middle in
        let fd : d ≡ is_above (lines_of l) n j x h isnt = ed ∙ ap (λ (z : ℕ). is_above (lines_of l) n j x z isnt) at_middle in
        and_assoc a b (t && (c && d)) ∙ cc

-- A word of the list is chosen and is, its origin removed, the line's word exactly if it is chosen and says the same.
pub link_same : (set : ℕ) (ws : List ℕ) (i w : ℕ) → i < length ws → {c : Bool} {v : ℕ} → c ≡ chooses set (get_or ws i 0) → v ≡ plain_of (get_or ws i 0)
    → (c && eqb v w) ≡ word_says set ws i (tail_of w) (head_of w) (sign_of w)
link_same set ws i w h {c} {v} told plain = same_test _ _ there back
  where
    there : (c && eqb v w) ≡ true → word_says set ws i (tail_of w) (head_of w) (sign_of w) ≡ true
    there e =
        let f : plain_of (get_or ws i 0) ≡ w = sym plain ∙ eqb-true v w (and_right c (eqb v w) e) in
        (decides_word set ws i (tail_of w) (head_of w) (sign_of w)).1
        (record {
          listed = h;
          picked = sym told ∙ and_left c (eqb v w) e;
          tail = ap tail_of f;
          head = ap head_of f;
          sign = ap parity f ∙ sym (sign_number_lem (parity w) (omega arith));
        })

    back : word_says set ws i (tail_of w) (head_of w) (sign_of w) ≡ true → (c && eqb v w) ≡ true
    back e =
        let r = (decides_word set ws i (tail_of w) (head_of w) (sign_of w)).0 e in
        let p = plain_of (get_or ws i 0) in
        let s : sign_of p ≡ sign_of w = ap sign_at r.sign ∙ sign_at_number (sign_of w) in
        and_both c (eqb v w) (told ∙ r.picked) (eq-eqb v w (plain ∙ sym (word_of_parts p) ∙ rw (r.tail, r.head, s) (word_of_parts w)))

pub link_past : (set : ℕ) (ws : List ℕ) (i w : ℕ) → length ws ≤ i → false ≡ word_says set ws i (tail_of w) (head_of w) (sign_of w)
link_past set ws i w h = rw (le-ltb i (length ws) h)
