-- Our list from the reason's list: sizes of the two parts, then the nodes. This is what the writer computes.
use Rattle.std.specs.Prelude.{ℕ, zero, suc, ◌+◌, ◌-◌, cond, List, [], ◌∷◌, eqb, ltb, get_or}
use Rattle.theory.specs.Words.{Sign, is, isnt, sign_number, word}
use Rattle.theory.specs.Sequents.{→⊢, →⊢'}
use Rattle.proof_form.specs.Ours.{Hop, hop, cross, chain_file}

-- The link from u, which is node i of the path, to v, where the first part has a nodes: within it, the crossing, or after it.
abbrev pub hop_of : List ℕ → ℕ → ℕ → ℕ → ℕ → Hop
hop_of ws a i u v = cond (ltb (suc i) a) (hop →⊢ u v) (cond (eqb (suc i) a) (cross ws u v) (hop →⊢' v u))

-- The same, read from the reason's list p.
abbrev pub hop_at : List ℕ → List ℕ → ℕ → Hop
hop_at ws p i = hop_of ws (get_or p 0 0) i (get_or p (i + 2) 0) (get_or p (i + 3) 0)

-- The links of p from link i on, m of them.
unfoldable pub hops_from : List ℕ → List ℕ → ℕ → ℕ → List Hop
hops_from ws p i zero = []
hops_from ws p i (suc m) = hop_at ws p i ∷ hops_from ws p (suc i) m

-- The first link of a path from an object.
abbrev pub start_at : ℕ → List ℕ → ℕ
start_at x p = word x (get_or p 3 0) (cond (eqb (get_or p 0 0) 1) isnt is)

-- Our list for the statement that the path with the list p shows, of which m are links.
unfoldable pub from_reason : ℕ → ℕ → List ℕ → ℕ → ℕ → Sign → List ℕ → ℕ → List ℕ
from_reason o n ws x y s p m =
    cond (ltb x o) (chain_file 0 [] x (start_at x p) (hops_from ws p 1 (m - 1)) (m - 1))
    (chain_file 1 ((2 + sign_number s) ∷ n ∷ word x y s ∷ []) n (word n x is) (hops_from ws p 0 m) m)
