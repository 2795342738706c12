-- Words with an origin ([12]): who entered a link. The words that a set of origins chooses, and which words with an origin are legal.
use Rattle.std.specs.Prelude.{ℕ, ◌+◌, ◌*◌, ◌/◌, ◌%◌, ◌^◌, ◌≤◌, Bool, cond, eqb, length}
use mathlib.Core.List.{List, [], ◌∷◌, Memᴰ}
use Rattle.theory.specs.Words.{node_limit, word_limit}
use Rattle.theory.specs.Nets.{LegalWord}
use Rattle.theory.specs.Inside.{Ends}
use Rattle.theory.specs.Marks.{link}
use Rattle.theory.specs.declared.Command.{Command}

-- What an origin is worth in a word: plain words, which have none written, stand below it.
abbrev pub origin_unit : ℕ
origin_unit = 2097152

-- The plain word w of the origin i.
abbrev pub from : ℕ → ℕ → ℕ
from i w = i * origin_unit + w

-- A word's origin, and the word with its origin removed.
abbrev pub origin_of : ℕ → ℕ
origin_of w = w / origin_unit

abbrev pub plain_of : ℕ → ℕ
plain_of w = w % origin_unit

-- The largest origin, and the largest set of origins (number 15).
abbrev pub origin_limit : ℕ
origin_limit = 3

abbrev pub set_limit : ℕ
set_limit = 15

-- The set has the origin i: its bit i.
abbrev pub among : ℕ → ℕ → Bool
among set i = eqb (set / 2 ^ i % 2) 1

-- The set chooses the word: it has the word's origin.
abbrev pub chooses : ℕ → ℕ → Bool
chooses set w = among set (origin_of w)

-- The chosen words with their origins removed, in their order, repeats kept.
unfoldable pub chosen : ℕ → List ℕ → List ℕ
chosen set [] = []
chosen set (w ∷ ws) = cond (chooses set w) (plain_of w ∷ chosen set ws) (chosen set ws)

-- A legal word with an origin: the origin is at most 3, and the plain word is legal.
pub record LegalFrom (o k w : ℕ) : Type 0 where
  pub origin : origin_of w ≤ origin_limit
  pub plain : LegalWord o k (plain_of w)

-- A net whose words have origins: what numbers 1, 2 and 3 leave. All words count and are legal, chosen or not.
pub record NetFrom (o k : ℕ) (ws : List ℕ) : Type 0 where
  pub few : o + k ≤ node_limit
  pub short : length ws ≤ word_limit
  pub legal : (w : ℕ) → Memᴰ w ws → LegalFrom o k w

-- What the loops over links ask of a word with an origin: the origin is at most 3, and both ends of the plain word are nodes below n.
pub record EndsFrom (n w : ℕ) : Type 0 where
  pub origin : origin_of w ≤ origin_limit
  pub ends : Ends n (plain_of w)

-- So of every word of a list.
abbrev pub InsideFrom : ℕ → List ℕ → Type 0
InsideFrom n ws = (w : ℕ) → Memᴰ w ws → EndsFrom n w

-- Under a command a chosen word does what the plain word does, and any other does nothing.
abbrev pub link_from : ℕ → Command → List ℕ → ℕ → List ℕ → List ℕ
link_from set c old w m = cond (chooses set w) (link c old (plain_of w) m) m
