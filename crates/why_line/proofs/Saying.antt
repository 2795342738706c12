-- A line is read in one way: a reader gives each line back out of its text.
use Prim.Native.Nat.{ℕ, ◌+◌, ◌-◌, ◌<◌}
use mathlib.Core.Path.{◌≡◌, refl, sym, ap, ◌∙◌}
use mathlib.Core.Bool.{Bool, true, false, cond}
use mathlib.Core.List.{List, [], ◌∷◌, ◌++◌, append_assoc, Memᴰ}
use native.Mathlib.Omega.{arith}
use borrow.Author.Tests.{lt-ltb, le-ltb}
use lib.Dec.{eqb, ltb}
use lib.ListN.{get_or, drop}
use Rattle.theory.specs.Words.{Sign, is, isnt}
use Rattle.theory.specs.Origins.{origin_of}
use Rattle.text_field.specs.Decimal.{decimal, value, Digit}
use Rattle.text_field.proofs.Denoting.{decimal_value, decimal_digits}
use Rattle.derivation_lines.specs.Lines.{Line, line, Ground, link, r1, r2, r3, r4, r5, none}
use Rattle.derivation_lines.specs.Flat.{one_of, two_of}
use Rattle.why_line.specs.Text.{named, origin_word, said_text, link_text, from_one, from_two, ground_text, front_text, line_text}

-- ── the reader ──
-- What stands before the first byte below the digits, and what stands behind that byte.
unfoldable before : List ℕ → List ℕ
before [] = []
before (b ∷ l) = cond (ltb b 48) [] (b ∷ before l)

unfoldable behind : List ℕ → List ℕ
behind [] = []
behind (b ∷ l) = cond (ltb b 48) l (behind l)

-- The number at the front of a text.
abbrev number : List ℕ → ℕ
number t = value (before t)

-- A ground: link and a number, or by the digit of a rule the numbers of lines, counted from 1 on.
abbrev rule_in : ℕ → List ℕ → Ground
rule_in digit t =
    cond (eqb digit 49) r1
    (cond (eqb digit 50) (r2 (number t - 1) (number (behind t) - 1))
    (cond (eqb digit 51) (r3 (number t - 1))
    (cond (eqb digit 52) (r4 (number t - 1) (number (behind t) - 1))
    (cond (eqb digit 53) (r5 (number t - 1) (number (behind t) - 1)) none))))

abbrev ground_in : List ℕ → Ground
ground_in t = cond (eqb (get_or t 0 0) 108) (link (number (drop 5 t))) (rule_in (get_or t 2 0) (drop 9 t))

-- What is said of the tail x, and its ground: the third byte is the space after is, or the stroke in is-not.
abbrev said_in : ℕ → List ℕ → Line
said_in x t = cond (eqb (get_or t 2 0) 32) (line x (number (drop 3 t)) is (ground_in (drop 5 (behind (drop 3 t))))) (line x (number (drop 7 t)) isnt (ground_in (drop 1 (behind (drop 7 t)))))

-- A line, behind two spaces, its number and a space.
abbrev line_in : List ℕ → Line
line_in t = said_in (number (drop 1 (behind (drop 2 t)))) (behind (drop 1 (behind (drop 2 t))))

-- ── what it reads ──
digits_before : (f : List ℕ) (c : ℕ) (r : List ℕ) → c < 48 → ((b : ℕ) → Memᴰ b f → Digit b) → before (f ++ c ∷ r) ≡ f
unfolding before
digits_before [] c r h d = rw (lt-ltb c 48 h)
digits_before (b ∷ f) c r h d = rw (le-ltb b 48 (d b (Memᴰ.head refl)).low, digits_before f c r h (λ v m. d v (Memᴰ.tail m)))

digits_behind : (f : List ℕ) (c : ℕ) (r : List ℕ) → c < 48 → ((b : ℕ) → Memᴰ b f → Digit b) → behind (f ++ c ∷ r) ≡ r
unfolding behind
digits_behind [] c r h d = rw (lt-ltb c 48 h)
digits_behind (b ∷ f) c r h d = rw (le-ltb b 48 (d b (Memᴰ.head refl)).low) (digits_behind f c r h (λ v m. d v (Memᴰ.tail m)))

-- A number with a byte below the digits after it, and with more behind that.
last_number : (n c : ℕ) → c < 48 → n < 4294967296 → number (decimal n ++ c ∷ []) ≡ n
last_number n c h small = ap value (digits_before (decimal n) c [] h (decimal_digits n)) ∙ decimal_value n small

first_number : (n c : ℕ) (r : List ℕ) → c < 48 → n < 4294967296 → number ((decimal n ++ c ∷ []) ++ r) ≡ n
first_number n c r h small =
    ap number (append_assoc (decimal n) (c ∷ []) r) ∙ ap value (digits_before (decimal n) c r h (decimal_digits n)) ∙ decimal_value n small

behind_number : (n c : ℕ) (r : List ℕ) → c < 48 → behind ((decimal n ++ c ∷ []) ++ r) ≡ r
behind_number n c r h = ap behind (append_assoc (decimal n) (c ∷ []) r) ∙ digits_behind (decimal n) c r h (decimal_digits n)

-- Numbers that the writer takes.
pub record SmallGround (g : Ground) : Type 0 where
  pub one : one_of g < 4294967295
  pub two : two_of g < 4294967295

pub record SmallLine (l : Line) : Type 0 where
  pub tail : l.tail < 4294967296
  pub head : l.head < 4294967296
  pub ground : SmallGround l.ground

-- The number of one line that a rule is used on, counted from 1 on, or of two.
one_back : (i : ℕ) → i < 4294967295 → number (decimal (i + 1) ++ 10 ∷ []) - 1 ≡ i
one_back i h = omega (arith, last_number (i + 1) 10 (omega arith) (omega arith))

module _ (i j : ℕ) where
  abbrev both : List ℕ
  both = (decimal (i + 1) ++ 32 ∷ []) ++ (decimal (j + 1) ++ 10 ∷ [])

  two_first : i < 4294967295 → number both - 1 ≡ i
  two_first h = omega (arith, first_number (i + 1) 32 (decimal (j + 1) ++ 10 ∷ []) (omega arith) (omega arith))

  two_second : j < 4294967295 → number (behind both) - 1 ≡ j
  two_second h = ap (λ (t : List ℕ). number t - 1) (behind_number (i + 1) 32 (decimal (j + 1) ++ 10 ∷ []) (omega arith)) ∙ one_back j h

ground_back : (told : Bool) (ws : List ℕ) (g : Ground) → SmallGround g → ground_in (ground_text told ws g) ≡ g
unfolding link_text from_one from_two
ground_back true ws (link i) s = ap link (first_number i 32 (named origin_word (origin_of (get_or ws i 0)) 10) (omega arith) (omega (arith, s.one)))
ground_back false ws (link i) s = ap link (last_number i 10 (omega arith) (omega (arith, s.one)))
ground_back told ws r1 s = refl
ground_back told ws (r2 i j) s = rw (two_first i j s.one, two_second i j s.two)
ground_back told ws (r3 i) s = ap r3 (one_back i s.one)
ground_back told ws (r4 i j) s = rw (two_first i j s.one, two_second i j s.two)
ground_back told ws (r5 i j) s = rw (two_first i j s.one, two_second i j s.two)
ground_back told ws none s = refl

said_back : (x y : ℕ) (s : Sign) (r : List ℕ) → y < 4294967296 → said_in x (said_text s y ++ r) ≡ line x y s (ground_in r)
unfolding said_text
said_back x y is r h =
    ap (λ (t : List ℕ). line x (number t) is (ground_in (drop 5 (behind t)))) (append_assoc (decimal y ++ 32 ∷ []) (32 ∷ 32 ∷ 32 ∷ 32 ∷ 32 ∷ []) r)
    ∙ rw (first_number y 32 (32 ∷ 32 ∷ 32 ∷ 32 ∷ 32 ∷ r) (omega arith) h, behind_number y 32 (32 ∷ 32 ∷ 32 ∷ 32 ∷ 32 ∷ r) (omega arith)) refl
said_back x y isnt r h =
    ap (λ (t : List ℕ). line x (number t) isnt (ground_in (drop 1 (behind t)))) (append_assoc (decimal y ++ 32 ∷ []) (32 ∷ []) r)
    ∙ rw (first_number y 32 (32 ∷ r) (omega arith) h, behind_number y 32 (32 ∷ r) (omega arith)) refl

module _ (told : Bool) (ws : List ℕ) (n : ℕ) (l : Line) where
  -- What stands behind the tail, and behind the number.
  abbrev said : List ℕ
  said = said_text l.sign l.head ++ ground_text told ws l.ground

  abbrev statement : List ℕ
  statement = (decimal l.tail ++ 32 ∷ []) ++ said

  line_parts : line_text told ws n l ≡ 32 ∷ 32 ∷ ((decimal (n + 1) ++ 32 ∷ []) ++ (32 ∷ statement))
  unfolding line_text front_text
  line_parts =
      append_assoc (front_text n l.tail) (said_text l.sign l.head) (ground_text told ws l.ground)
      ∙ append_assoc (named (32 ∷ []) (n + 1) 32) (named [] l.tail 32) said

  -- The number of a line is read,
  number_back : n < 4294967295 → number (drop 2 (line_text told ws n l)) ≡ n + 1
  number_back h = ap (λ (t : List ℕ). number (drop 2 t)) line_parts ∙ first_number (n + 1) 32 (32 ∷ statement) (omega arith) (omega arith)

  -- and so is the line.
  line_back : SmallLine l → line_in (line_text told ws n l) ≡ l
  line_back s =
      ap line_in line_parts
      ∙ ap (λ (t : List ℕ). said_in (number (drop 1 t)) (behind (drop 1 t))) (behind_number (n + 1) 32 (32 ∷ statement) (omega arith))
      ∙ rw (first_number l.tail 32 said (omega arith) s.tail, behind_number l.tail 32 said (omega arith)) (said_back l.tail l.head l.sign (ground_text told ws l.ground) s.head)
      ∙ ap (line l.tail l.head l.sign) (ground_back told ws l.ground s.ground)

-- Two lines with one text are one line, and have one number, whatever the words are and whether origins are told or not.
pub line_says : (told told' : Bool) (ws ws' : List ℕ) (n n' : ℕ) (l l' : Line) → n < 4294967295 → n' < 4294967295 → SmallLine l → SmallLine l' → line_text told ws n l ≡ line_text told' ws' n' l'
    → (n ≡ n') × (l ≡ l')
line_says told told' ws ws' n n' l l' h h' s s' e =
    let same : n + 1 ≡ n' + 1 = sym (number_back told ws n l h) ∙ ap (λ (t : List ℕ). number (drop 2 t)) e ∙ number_back told' ws' n' l' h' in
    (omega arith, sym (line_back told ws n l s) ∙ ap line_in e ∙ line_back told' ws' n' l' s')
