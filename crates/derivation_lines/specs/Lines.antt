-- Derivations that can be checked line by line: numbered statements, each a link of the net or got from lines above it by one of (3.1) to (3.5).
-- The links are those of the words that a set of origins chooses; a link is named by its index in the whole list.
use Rattle.std.specs.Prelude.{ℕ, ◌-◌, ◌<◌, ◌≡◌, true, List, length, get_or}
use Rattle.theory.specs.Words.{Sign, is, isnt, sign_number, tail_of, head_of, parity}
use Rattle.theory.specs.Nets.{Kind}
use Rattle.theory.specs.Origins.{plain_of, chooses}

-- Where a line comes from: word i of the whole list, or a rule and the numbers of the lines that it is used on. A line from anybody may name neither.
pub data Ground : Type 0 where
  link : ℕ → Ground
  r1 none : Ground
  r2 r4 r5 : ℕ → ℕ → Ground
  r3 : ℕ → Ground

-- A line: a statement and its ground. Lines are numbered from 0.
pub record Line : Type 0 where
  pub tail : ℕ
  pub head : ℕ
  pub sign : Sign
  pub ground : Ground

abbrev pub line : ℕ → ℕ → Sign → Ground → Line
line x y s g = record { tail = x; head = y; sign = s; ground = g }

-- What stands at a number that no line has.
abbrev pub blank : Line
blank = line 0 0 is none

-- Word i of the whole list is chosen and, its origin removed, says x → y, or x ↛ y.
pub record WordSays (set : ℕ) (ws : List ℕ) (i x y : ℕ) (s : Sign) : Type 0 where
  pub listed : i < length ws
  pub picked : chooses set (get_or ws i 0) ≡ true
  pub tail : tail_of (plain_of (get_or ws i 0)) ≡ x
  pub head : head_of (plain_of (get_or ws i 0)) ≡ y
  pub sign : parity (plain_of (get_or ws i 0)) ≡ sign_number s

-- Line j stands above line n and says x → y, or x ↛ y.
pub record Above (ls : List Line) (n j x y : ℕ) (s : Sign) : Type 0 where
  pub above : j < n
  pub tail : (get_or ls j blank).tail ≡ x
  pub head : (get_or ls j blank).head ≡ y
  pub sign : (get_or ls j blank).sign ≡ s

-- Line n, which is l, is right given the lines above it. p, q and r are kinds, a is an object, x is either.
pub data Follows (o k set : ℕ) (ws : List ℕ) (ls : List Line) (n : ℕ) (l : Line) : Type 0 where
  by_link : (i : ℕ) → l.ground ≡ link i → WordSays set ws i l.tail l.head l.sign → Follows o k set ws ls n l
  -- (3.1) p → p
  by_1 : (p : ℕ) → l ≡ line p p is r1 → Kind o k p → Follows o k set ws ls n l
  -- (3.2) x → q and q → r give x → r
  by_2 : (x q r i j : ℕ) → l ≡ line x r is (r2 i j) → Kind o k q → Kind o k r → Above ls n i x q is → Above ls n j q r is → Follows o k set ws ls n l
  -- (3.3) p ↛ q gives q ↛ p
  by_3 : (p q i : ℕ) → l ≡ line q p isnt (r3 i) → Kind o k p → Kind o k q → Above ls n i p q isnt → Follows o k set ws ls n l
  -- (3.4) x → q and q ↛ r give x ↛ r
  by_4 : (x q r i j : ℕ) → l ≡ line x r isnt (r4 i j) → Kind o k q → Kind o k r → Above ls n i x q is → Above ls n j q r isnt → Follows o k set ws ls n l
  -- (3.5) p → q and a ↛ q give a ↛ p
  by_5 : (p q a i j : ℕ) → l ≡ line a p isnt (r5 i j) → Kind o k p → Kind o k q → a < o → Above ls n i p q is → Above ls n j a q isnt → Follows o k set ws ls n l

-- Every line is right given those above it.
abbrev pub Derivation : ℕ → ℕ → ℕ → List ℕ → List Line → Type 0
Derivation o k set ws ls = (n : ℕ) → n < length ls → Follows o k set ws ls n (get_or ls n blank)

-- A derivation of a statement: its last line says it.
pub record Derives (o k set : ℕ) (ws : List ℕ) (ls : List Line) (x y : ℕ) (s : Sign) : Type 0 where
  pub lines : Derivation o k set ws ls
  pub last : Above ls (length ls) (length ls - 1) x y s
