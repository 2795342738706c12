-- The parts of a line as they are written one after another, and the room that they take.
use Prim.Native.Nat.{ℕ, zero, suc, ◌+◌, ◌≤◌}
use mathlib.Core.Path.{◌≡◌, refl}
use mathlib.Core.Bool.{Bool, true, false, not, ◌&&◌}
use mathlib.Core.List.{List, [], ◌∷◌, ◌++◌}
use native.Mathlib.Omega.{arith}
use native.Mathlib.Decide.{ℕ_discrete}
use borrow.Author.Tests.{ne_eqb, not-true, not-false}
use lib.Dec.{eqb}
use lib.ListN.{length, get_or, length-append}
use Rattle.theory.specs.Words.{Sign, is, isnt, sign_at, tail_of, head_of, sign_of}
use Rattle.theory.specs.Origins.{origin_of}
use Rattle.text_field.specs.Decimal.{decimal}
use Rattle.text_field.specs.Writing.{Wrote}
use Rattle.text_field.proofs.Decimals.{most_digits}
use Rattle.text_field.proofs.Writing.{rest, room}
use Rattle.derivation_lines.specs.Lines.{Ground, link, r1, r2, r3, r4, r5, none}
use Rattle.derivation_lines.specs.Flat.{ground_at, line_at}
use Rattle.derivation_lines.proofs.OneWay.{zeros}
use Rattle.why_line.specs.Text.{named, is_word, isnt_word, link_word, origin_word, rule_word, from_word, said_text, link_text, from_one, from_two, ground_text, front_text, line_text}

-- A number with the byte after it takes at most 11 bytes, with a word before it at most 12 more than the word.
pub number_room : (n b : ℕ) → length (decimal n ++ b ∷ []) ≤ 11
number_room n b = simp length-append (omega (arith, most_digits 10 n))

-- A word and the space after it.
pub word_space : (w : List ℕ) → length (w ++ 32 ∷ []) ≡ length w + 1
word_space w = length-append w (32 ∷ [])

pub named_room : (w : List ℕ) (n b : ℕ) → length (named w n b) ≤ length w + 12
named_room w n b = simp length-append (omega (arith, most_digits 10 n))

-- Where there is room for a word and twelve bytes more, the number that it names fits,
pub named_fits : (w : List ℕ) (n b : ℕ) (l : List ℕ) → length w + 12 ≤ length l → length (named w n b) ≤ length l
named_fits w n b l h = omega (arith, named_room w n b)

-- and its writer leaves all but that room to the next one.
pub named_left : (w : List ℕ) (n b : ℕ) {l xs : List ℕ} {at : ℕ} → Wrote (named w n b) l xs at → length w + 12 ≤ length l
    → (at ≤ length w + 12) × ((at ≤ length xs) × (length l ≤ length (rest at xs) + (length w + 12)))
named_left w n b {l} v h =
    let size = named_room w n b in
    let left = room v (named_fits w n b l h) in
    (omega (arith, v.size, size), (left.1.0, omega (arith, left.1.1, size)))

-- ── the sign and the head ──
pub said_is : (sign y : ℕ) → sign ≡ 0 → named is_word y 32 ++ (32 ∷ 32 ∷ 32 ∷ 32 ∷ 32 ∷ []) ≡ said_text (sign_at sign) y
unfolding said_text
said_is sign y e = rw e

pub said_isnt : (sign y : ℕ) → (sign ≡ 0 → ⊥) → named isnt_word y 32 ++ (32 ∷ []) ≡ said_text (sign_at sign) y
unfolding said_text
said_isnt zero y h = absurd (h refl)
said_isnt (suc n) y h = refl

pub said_room : (s : Sign) (y : ℕ) → length (said_text s y) ≤ 19
unfolding said_text
said_room is y = rw length-append (omega (arith, named_room is_word y 32))
said_room isnt y = rw length-append (omega (arith, named_room isnt_word y 32))

-- ── a link ──
pub link_plain : (told : Bool) (g i : ℕ) → not told ≡ true → named link_word i 10 ≡ link_text told g i
unfolding link_text
link_plain told g i e = rw (not-true told e)

pub link_told : (told : Bool) (g i : ℕ) → not told ≡ false → named link_word i 32 ++ named origin_word g 10 ≡ link_text told g i
unfolding link_text
link_told told g i e = rw (not-false told e)

pub link_room : (told : Bool) (g i : ℕ) → length (link_text told g i) ≤ 34
unfolding link_text
link_room true g i = rw length-append (omega (arith, named_room link_word i 32, named_room origin_word g 10))
link_room false g i = omega (arith, named_room link_word i 10)

-- Past the last word there is no origin.
pub no_origin : (ws : List ℕ) (i : ℕ) → length ws ≤ i → 0 ≡ origin_of (get_or ws i 0)
no_origin [] i h = refl
no_origin (w ∷ ws) zero h = absurd (omega arith)
no_origin (w ∷ ws) (suc i) h = no_origin ws i (omega arith)

-- ── where a line comes from ──
pub two_room : (w : List ℕ) (i j : ℕ) → length (named w i 32 ++ (decimal j ++ 10 ∷ [])) ≤ length w + 23
two_room w i j = rw length-append (omega (arith, named_room w i 32, number_room j 10))

module _ (told : Bool) (ws : List ℕ) (r i j : ℕ) (some : ground_at r i j ≡ none → ⊥) where
  pub as_link : r ≡ 0 → {g : ℕ} → g ≡ origin_of (get_or ws i 0) → link_text told g i ≡ ground_text told ws (ground_at r i j)
  as_link e f = let z = zeros (eqb j 0) (link i) (rw e at some) in rw (e, z, f)

  pub as_1 : r ≡ 1 → rule_word 49 ++ (10 ∷ []) ≡ ground_text told ws (ground_at r i j)
  as_1 e = let z = zeros (eqb i 0 && eqb j 0) r1 (rw e at some) in rw (e, z)

  pub as_2 : r ≡ 2 → named (from_word 50) (i + 1) 32 ++ (decimal (j + 1) ++ (10 ∷ [])) ≡ ground_text told ws (ground_at r i j)
  unfolding from_two
  as_2 e = rw e

  pub as_3 : r ≡ 3 → named (from_word 51) (i + 1) 10 ≡ ground_text told ws (ground_at r i j)
  unfolding from_one
  as_3 e = let z = zeros (eqb j 0) (r3 i) (rw e at some) in rw (e, z)

  pub as_4 : r ≡ 4 → named (from_word 52) (i + 1) 32 ++ (decimal (j + 1) ++ (10 ∷ [])) ≡ ground_text told ws (ground_at r i j)
  unfolding from_two
  as_4 e = rw e

  pub as_5 : (r ≡ 0 → ⊥) → (r ≡ 1 → ⊥) → (r ≡ 2 → ⊥) → (r ≡ 3 → ⊥) → (r ≡ 4 → ⊥)
      → named (from_word 53) (i + 1) 32 ++ (decimal (j + 1) ++ (10 ∷ [])) ≡ ground_text told ws (ground_at r i j)
  unfolding from_two
  as_5 a b c d e = at (ℕ_discrete r 5)
    where
      at : Dec (r ≡ 5) → named (from_word 53) (i + 1) 32 ++ (decimal (j + 1) ++ (10 ∷ [])) ≡ ground_text told ws (ground_at r i j)
      at (yes f) = rw f
      at (no f) = absurd (some (rw (ne_eqb r 0 a, ne_eqb r 1 b, ne_eqb r 2 c, ne_eqb r 3 d, ne_eqb r 4 e, ne_eqb r 5 f) refl))

pub ground_room : (told : Bool) (ws : List ℕ) (g : Ground) → length (ground_text told ws g) ≤ 34
unfolding from_one from_two
ground_room told ws (link i) = link_room told (origin_of (get_or ws i 0)) i
ground_room told ws r1 = omega arith
ground_room told ws (r2 i j) = omega (arith, two_room (from_word 50) (i + 1) (j + 1))
ground_room told ws (r3 i) = omega (arith, named_room (from_word 51) (i + 1) 10)
ground_room told ws (r4 i j) = omega (arith, two_room (from_word 52) (i + 1) (j + 1))
ground_room told ws (r5 i j) = omega (arith, two_room (from_word 53) (i + 1) (j + 1))
ground_room told ws none = omega arith

-- ── the front of a line ──
pub front_joins : (n x : ℕ) → named (32 ∷ []) (n + 1) 32 ++ named [] x 32 ≡ front_text n x
unfolding front_text
front_joins n x = refl

pub front_room : (n x : ℕ) → length (front_text n x) ≤ 25
unfolding front_text
front_room n x = rw length-append (omega (arith, named_room (32 ∷ []) (n + 1) 32, named_room [] x 32))

-- Front and what is said.
pub two_parts_room : (n x : ℕ) (s : Sign) (y : ℕ) → length (front_text n x ++ said_text s y) ≤ 44
two_parts_room n x s y = rw length-append (omega (arith, front_room n x, said_room s y))

-- A line is its front, what is said, and where it comes from.
pub line_joins : (told : Bool) (ws : List ℕ) (n w r i j : ℕ) {t h : ℕ} → t ≡ tail_of w → h ≡ head_of w
    → (front_text n t ++ said_text (sign_of w) h) ++ ground_text told ws (ground_at r i j) ≡ line_text told ws n (line_at w r i j)
unfolding line_text
line_joins told ws n w r i j e f = rw (e, f)
