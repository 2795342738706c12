-- The figures told by the completed list.
use Rattle.std.specs.Prelude.{ℕ, ◌+◌, Bool, ◌&&◌, cond, eqb, get_or}
use mathlib.Core.List.{List, [], ◌∷◌, Memᴰ}
use Rattle.theory.specs.Words.{Sign, is, isnt, sign_number, word, tail_of, parity}
use Rattle.figures_counts.specs.Meaning.{Counted, Holds, ObjectPair, KindPair, place}

-- The answer about x and y, by whether the list has the word of x → y and that of x ↛ y.
abbrev pub Listed : List ℕ → Bool → Bool → ℕ → ℕ → Type 0
Listed out p q x y = Holds p (Memᴰ (word x y is) out) × Holds q (Memᴰ (word x y isnt) out)

-- Each figure is the number of pairs that the list says so of.
pub record Tied (o k : ℕ) (out l : List ℕ) : Type 0 where
  pub objects : (p q : Bool) → Counted (λ (x y : ℕ). ObjectPair o k x y × Listed out p q x y) (get_or l (place p q) 0)
  pub kinds : (p q : Bool) → Counted (λ (x y : ℕ). KindPair o k x y × Listed out p q x y) (get_or l (4 + place p q) 0)

-- How many words of a list pass a test.
unfoldable pub amount : (ℕ → Bool) → List ℕ → ℕ
amount f [] = 0
amount f (w ∷ ws) = cond (f w) 1 0 + amount f ws

-- A word of this sign whose tail passes a test.
abbrev pub about : (ℕ → Bool) → Sign → ℕ → Bool
about g s w = g (tail_of w) && eqb (parity w) (sign_number s)
