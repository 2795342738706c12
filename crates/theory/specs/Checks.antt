-- The reason check: what it says yes to, and the test that computes it.
use Rattle.std.specs.Prelude.{ℕ, suc, ◌+◌, ◌≡◌, Bool, true, false, cond, ◌&&◌, ◌||◌, List, [], ◌∷◌, eqb, ltb, leb, length}
use Rattle.theory.specs.Words.{Sign, is, isnt, tail_of, head_of, parity}
use Rattle.theory.specs.Nets.{Links}
use Rattle.theory.specs.Paths.{last_of, Shows}
use Rattle.theory.specs.Reasons.{written}

-- The list is a path of the net, written with nothing after it, that shows the statement asked; repeats of kinds are allowed.
pub record Passes (o k : ℕ) (ws : List ℕ) (x y : ℕ) (s : Sign) (l : List ℕ) : Type 0 where
  pub first : List ℕ
  pub second : List ℕ
  pub form : l ≡ written x first second
  pub shows : Shows o k (Links ws) x first second y s

-- Some word says x → y (p = 0), or x ↛ y (p = 1).
unfoldable pub listed : ℕ → ℕ → ℕ → List ℕ → Bool
listed x y p [] = false
listed x y p (w ∷ ws) = (eqb (tail_of w) x && (eqb (head_of w) y && eqb (parity w) p)) || listed x y p ws

-- A step from a to b: a link, or a kind repeated.
abbrev pub steps_to : ℕ → ℕ → List ℕ → ℕ → ℕ → Bool
steps_to o k ws a b = listed a b 0 ws || (eqb a b && (leb o a && ltb a (o + k)))

-- The step from u, which is node i of the path, to v, where the first part has a nodes: within it, the crossing, or after it.
abbrev pub step_at : ℕ → ℕ → List ℕ → ℕ → ℕ → ℕ → ℕ → Bool
step_at o k ws a i u v =
    cond (ltb (suc i) a) (steps_to o k ws u v)
    (cond (eqb (suc i) a) (listed u v 1 ws || listed v u 1 ws)
    (steps_to o k ws v u))

-- Every step from u on.
unfoldable pub all_steps : ℕ → ℕ → List ℕ → ℕ → ℕ → ℕ → List ℕ → Bool
all_steps o k ws a i u [] = true
all_steps o k ws a i u (v ∷ p) = step_at o k ws a i u v && all_steps o k ws a (suc i) v p

-- A second part of b nodes goes with the sign asked.
abbrev pub goes_with : Sign → ℕ → Bool
goes_with is b = eqb b 0
goes_with isnt b = ltb 0 b

-- The test.
unfoldable pub passes : ℕ → ℕ → List ℕ → ℕ → ℕ → Sign → List ℕ → Bool
passes o k ws x y s [] = false
passes o k ws x y s (a ∷ []) = false
passes o k ws x y s (a ∷ b ∷ []) = false
passes o k ws x y s (a ∷ b ∷ u ∷ p) =
    ltb 0 a && (eqb (a + b) (suc (length p)) && (goes_with s b && (eqb u x && (eqb (last_of u p) y && all_steps o k ws a 0 u p))))
