-- The list of the lanes that each class of words may open.
use Prim.Native.Nat.{ℕ, ◌+◌, ◌*◌, ◌/◌, ◌%◌, ◌<◌, ◌≤◌}
use mathlib.Core.Path.{◌≡◌, sym, ap, ◌∙◌}
use mathlib.Core.Bool.{Bool, true, false}
use mathlib.Core.List.{List}
use native.Mathlib.Omega.{arith}
use native.Mathlib.Nat.{add-mul-div_right, mul-add-mod_self_right, mod-eq_of_lt, div-eq_of_lt}
use borrow.Author.Count.{below_more}
use borrow.Author.Tests.{eq-eqb, ne_eqb}
use lib.ListN.{length, get_or, set}
use lib.Seq.{get_or-set_same, get_or-set_other}
use Rattle.theory_laws.proofs.Booleans.{and_false}
use Rattle.theory.specs.Words.{parity}
use Rattle.theory.specs.Origins.{origin_unit, origin_of, origin_limit, chooses}
use Rattle.theory.proofs.origins.Choosing.{origin_from}
use Rattle.scan_link.specs.Classes.{class_of, word_in, lanes_for, Table}

-- A number in two parts, the lower one below b.
module _ (a b : ℕ) {x : ℕ} (l : x < b) where
  upper_part : (x + a * b) / b ≡ a
  upper_part = omega (arith, add-mul-div_right x a {z = b} (omega (arith, l)), div-eq_of_lt l)

  lower_part : (a * b + x) % b ≡ x
  lower_part = mul-add-mod_self_right a b x ∙ mod-eq_of_lt l

-- The multiplication puts the sign above the origin, and both at the top of 32 bits.
pub class_number : (w : ℕ) → origin_of w ≤ origin_limit → w * 2147483904 % 4294967296 / 536870912 ≡ class_of w
class_number w l =
    let e : w * 2147483904 ≡ w / 2 * 4294967296 + (w % 2 * 2147483648 + w * 256) = omega arith in
    let m : w * 2147483904 % 4294967296 ≡ w % 2 * 2147483648 + w * 256 =
    ap (λ (q : ℕ). q % 4294967296) e ∙ lower_part (w / 2) 4294967296 (omega (arith, l)) in
    let q : w % 2 * 2147483648 + w * 256 ≡ w % 2097152 * 256 + class_of w * 536870912 = omega arith in
    ap (λ (q : ℕ). q / 536870912) (m ∙ q) ∙ upper_part (class_of w) 536870912 (omega arith)

-- A word and the word of its class may open the same lanes.
class_lanes : (os sign w : ℕ) → origin_of w ≤ origin_limit → lanes_for os sign (word_in (class_of w)) ≡ lanes_for os sign w
class_lanes os sign w l =
    let o : class_of w % 4 ≡ origin_of w = lower_part (parity w) 4 (omega (arith, l)) in
    let s : class_of w / 4 ≡ parity w = omega (arith, o) in
    let p : parity (origin_of w * origin_unit + parity w) ≡ parity w = omega arith in
    rw (o, s, origin_from (origin_of w) (parity w) (omega arith), p)

-- So a list that is right at the word of each class is right at every word.
pub table_all : (os sign : ℕ) (t : List ℕ) → ((i : ℕ) → i < 8 → get_or t i 0 ≡ lanes_for os sign (word_in i)) → Table os sign t
table_all os sign t h w l = h (class_of w) (omega arith) ∙ class_lanes os sign w l

-- A list that is right at the classes below i, with one byte more.
pub table_more : (os sign : ℕ) (t : List ℕ) (i : ℕ) {w x : ℕ} → i < length t → w ≡ word_in i → x ≡ lanes_for os sign w
    → ((k : ℕ) → k < i → get_or t k 0 ≡ lanes_for os sign (word_in k)) → (k : ℕ) → k < i + 1 → get_or (set t i x) k 0 ≡ lanes_for os sign (word_in k)
table_more os sign t i {x = x} l e h f =
    below_more (λ (k : ℕ). get_or (set t i x) k 0 ≡ lanes_for os sign (word_in k)) i
    (λ k j. get_or-set_other t i k x 0 (λ (d : k ≡ i). omega arith) ∙ f k j)
    (get_or-set_same t i x 0 l ∙ h ∙ ap (lanes_for os sign) e)

-- One byte of the list, in the terms of the code: q says whether the set chooses the word.
module _ (os sign w : ℕ) where
  pub lanes_other : (parity w ≡ sign → ⊥) → 0 ≡ lanes_for os sign w
  lanes_other d = rw (ne_eqb (parity w) sign d, and_false (chooses os w))

  pub lanes_unchosen : {q : Bool} → q ≡ chooses os w → q ≡ false → 0 ≡ lanes_for os sign w
  lanes_unchosen h f = rw (sym h ∙ f)

  pub lanes_own : {q : Bool} → parity w ≡ sign → q ≡ chooses os w → q ≡ true → 7 ≡ lanes_for os sign w
  lanes_own e h t = rw (sym h ∙ t, eq-eqb (parity w) sign e)
