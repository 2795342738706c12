-- The words of a list that pass a test before the first that fails it, which is the word that clause 3 names.
use Rattle.std.specs.Prelude.{ℕ, zero, suc, ◌<◌, Bool, cond, List, [], ◌∷◌, length, get_or}
use Rattle.theory.specs.Nets.{LegalWord}
use Rattle.theory.specs.Origins.{LegalFrom}

-- How many they are: the index of the first word that fails, or the length of the list.
unfoldable pub passing : (ℕ → Bool) → List ℕ → ℕ
passing test [] = zero
passing test (w ∷ ws) = cond (test w) (suc (passing test ws)) zero

-- Word i is not as P says, and every word before it is.
pub record FirstFailing (P : ℕ → Type 0) (ws : List ℕ) (i : ℕ) : Type 0 where
  pub below : i < length ws
  pub fails : P (get_or ws i 0) → ⊥
  pub before : (j : ℕ) → j < i → P (get_or ws j 0)

-- The first illegal word of a list with origins, and of a plain list.
abbrev pub FirstIllegal : ℕ → ℕ → List ℕ → ℕ → Type 0
FirstIllegal o k ws i = FirstFailing (LegalFrom o k) ws i

abbrev pub FirstIllegalPlain : ℕ → ℕ → List ℕ → ℕ → Type 0
FirstIllegalPlain o k ws i = FirstFailing (LegalWord o k) ws i
