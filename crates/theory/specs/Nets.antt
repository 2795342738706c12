-- Nets: o objects and k kinds, N = o + k nodes in all, and a list of link words.
use Rattle.std.specs.Prelude.{ℕ, ◌+◌, ◌≤◌, ◌<◌, ◌≡◌, length}
use mathlib.Core.List.{List, Memᴰ}
use Rattle.theory.specs.Words.{Sign, sign_number, tail_of, head_of, parity, node_limit, word_limit}

-- p is a kind: objects stand below o, kinds from o to N − 1.
pub record Kind (o k p : ℕ) : Type 0 where
  pub low : o ≤ p
  pub high : p < o + k

-- A set of statements: L x y s says that x → y (or x ↛ y) is in L.
abbrev pub Statements : Type 1
Statements = ℕ → ℕ → Sign → Type 0

-- The statements that a list of words makes: order and repeats play no part.
pub record Links (ws : List ℕ) (x y : ℕ) (s : Sign) : Type 0 where
  pub it : ℕ
  pub listed : Memᴰ it ws
  pub tail : tail_of it ≡ x
  pub head : head_of it ≡ y
  pub sign : parity it ≡ sign_number s

-- Every word of the one list stands in the other.
abbrev pub AllIn : List ℕ → List ℕ → Type 0
AllIn ws vs = (w : ℕ) → Memᴰ w ws → Memᴰ w vs

-- A legal word: its tail is a node and its head a kind.
pub record LegalWord (o k w : ℕ) : Type 0 where
  pub tail : tail_of w < o + k
  pub head : Kind o k (head_of w)

-- All words are legal.
abbrev pub LegalWords : ℕ → ℕ → List ℕ → Type 0
LegalWords o k ws = (w : ℕ) → Memᴰ w ws → LegalWord o k w

-- A net of plain words: what no check of a plain list refuses. Nets over one set of nodes are joined by joining their lists.
pub record Net (o k : ℕ) (ws : List ℕ) : Type 0 where
  pub few : o + k ≤ node_limit
  pub short : length ws ≤ word_limit
  pub legal : LegalWords o k ws
