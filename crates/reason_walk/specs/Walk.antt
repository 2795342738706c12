-- The walk along the distances, as its functions ask for it and describe it.
use Rattle.std.specs.Prelude.{ℕ, suc, ◌+◌, ◌<◌, ◌≡◌, cond, List, ltb, get_or}
use Rattle.theory.specs.Words.{Sign}
use Rattle.theory.specs.Reasons.{never}
use Rattle.theory.specs.Searches.{arcs, next, descend}

-- From every state with a distance above 0 the places lead to a state that is one link nearer.
abbrev pub Leads : ℕ → Sign → List ℕ → List ℕ → Type 0
Leads n s ws d =
    (u i : ℕ) → u < n + n → get_or d u never ≡ suc i → suc i < never
    → (next (arcs n s ws) d u i (n + n) < n + n) × (get_or d (next (arcs n s ws) d u i (n + n)) never ≡ i)

-- The states after x on the way that the places d lead.
abbrev pub states_from : ℕ → Sign → List ℕ → ℕ → List ℕ → List ℕ
states_from n s ws x d = descend (arcs n s ws) d (n + n) x (get_or d x never)

-- 1 for a state of the first part, 0 for one of the second.
abbrev pub first_part : ℕ → ℕ → ℕ
first_part n v = cond (ltb v n) 1 0
