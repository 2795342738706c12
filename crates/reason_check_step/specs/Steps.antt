-- One step of a path: what one word does for it, and whether it repeats a kind.
use Rattle.std.specs.Prelude.{ℕ, ◌+◌, Bool, false, cond, ◌&&◌, ◌||◌, eqb, ltb, leb}
use Rattle.theory.specs.Words.{tail_of, head_of, parity}

-- The word w says x → y (p = 0), or x ↛ y (p = 1).
abbrev pub word_says : ℕ → ℕ → ℕ → ℕ → Bool
word_says x y p w = eqb (tail_of w) x && (eqb (head_of w) y && eqb (parity w) p)

-- The word w makes the step from u, which is the m-th node of the path, to v: forwards before node a, either way round at it, backwards after it.
unfoldable pub makes : ℕ → ℕ → ℕ → ℕ → ℕ → Bool
makes a m u v w =
    cond (ltb m a) (word_says u v 0 w)
    (cond (eqb m a) (word_says u v 1 w || word_says v u 1 w)
    (word_says v u 0 w))

-- The step from u, which is the m-th node of the path, to v repeats a kind: not at node a, where the crossing needs a link.
unfoldable pub repeats : ℕ → ℕ → ℕ → ℕ → ℕ → ℕ → Bool
repeats o k a m u v = cond (eqb m a) false (eqb u v && (leb o u && ltb u (o + k)))
