-- The reason, computed: distances level by level from the end, then the smallest next state at each step.
use Rattle.std.specs.Prelude.{ℕ, zero, suc, ◌+◌, ◌-◌, Bool, cond, ◌&&◌, List, [], ◌∷◌, map, eqb, ltb, length, get_or, set, replicate}
use Rattle.theory.specs.Words.{Sign, is, isnt, tail_of, head_of, parity}
use Rattle.theory.specs.Reasons.{goal, never}

-- A move from one state to another.
pub record Arc : Type 0 where
  pub from : ℕ
  pub to : ℕ

abbrev pub arc : ℕ → ℕ → Arc
arc a b = record { from = a; to = b }

-- The moves of one word, by the sign asked and the word's own, in front of l.
abbrev pub arcs_of : ℕ → Sign → ℕ → ℕ → ℕ → List Arc → List Arc
arcs_of n is t h zero l = arc t h ∷ l
arcs_of n is t h (suc p) l = l
arcs_of n isnt t h zero l = arc t h ∷ arc (n + h) (n + t) ∷ l
arcs_of n isnt t h (suc p) l = arc t (n + h) ∷ arc h (n + t) ∷ l

-- The moves of a list of words.
unfoldable pub arcs : ℕ → Sign → List ℕ → List Arc
arcs n s [] = []
arcs n s (w ∷ ws) = arcs_of n s (tail_of w) (head_of w) (parity w) (arcs n s ws)

-- A move to a state at distance i from one that has no distance yet.
abbrev pub opens : ℕ → Arc → List ℕ → Bool
opens i e d = eqb (get_or d e.to never) i && eqb (get_or d e.from never) never

-- One level: each state that opens gets the distance i + 1.
unfoldable pub level : ℕ → List Arc → List ℕ → List ℕ
level i [] d = d
level i (e ∷ l) d = level i l (cond (opens i e d) (set d e.from (suc i)) d)

-- The distances of m states to t after so many levels.
unfoldable pub levels : List Arc → ℕ → ℕ → ℕ → List ℕ
levels l m t zero = set (replicate m never) t 0
levels l m t (suc i) = level i l (levels l m t i)

-- The scratch: as many levels as there are states are enough.
unfoldable pub distances : ℕ → Sign → List ℕ → ℕ → List ℕ
distances n s ws y = levels (arcs n s ws) (n + n) (goal n s y) (n + n)

-- A move from s to a state at distance i that is smaller than z.
abbrev pub better : Arc → List ℕ → ℕ → ℕ → ℕ → Bool
better e d s i z = eqb e.from s && (eqb (get_or d e.to never) i && ltb e.to z)

-- The smallest state at distance i that a move leads to from s, or z where none is smaller.
unfoldable pub next : List Arc → List ℕ → ℕ → ℕ → ℕ → ℕ
next [] d s i z = z
next (e ∷ l) d s i z = next l d s i (cond (better e d s i z) e.to z)

-- The states after s, which is at distance i, on the way to the end.
unfoldable pub descend : List Arc → List ℕ → ℕ → ℕ → ℕ → List ℕ
descend l d m s zero = []
descend l d m s (suc i) = next l d s i m ∷ descend l d m (next l d s i m) i

-- The states of the reason after x.
unfoldable pub reason_states : ℕ → Sign → List ℕ → ℕ → ℕ → List ℕ
reason_states n s ws x y = descend (arcs n s ws) (distances n s ws y) (n + n) x (get_or (distances n s ws y) x never)

-- How many of the states stand in the first part.
unfoldable pub firsts : ℕ → List ℕ → ℕ
firsts n [] = 0
firsts n (v ∷ p) = cond (ltb v n) 1 0 + firsts n p

-- The node that a state stands for.
abbrev pub node_of : ℕ → ℕ → ℕ
node_of n v = cond (ltb v n) v (v - n)

-- The reason's list: sizes of the two parts, then the nodes.
unfoldable pub reason_list : ℕ → ℕ → List ℕ → List ℕ
reason_list n x p = suc (firsts n p) ∷ (length p - firsts n p) ∷ x ∷ map (node_of n) p
