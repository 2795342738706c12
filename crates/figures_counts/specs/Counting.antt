-- The figures of a net, computed by the marker engine's answers.
use Rattle.std.specs.Prelude.{ℕ, zero, suc, ◌+◌, Bool, true, false, not, cond, ◌&&◌, List, [], ◌∷◌, ◌++◌}
use Rattle.theory.specs.Words.{is, isnt}
use Rattle.theory.specs.Rows.{answers}

-- How many of j places from b on f is true at.
unfoldable pub count : (ℕ → Bool) → ℕ → ℕ → ℕ
count f b zero = 0
count f b (suc j) = cond (f b) 1 0 + count f (suc b) j

-- The same at k kinds from o on, for j nodes from x on.
unfoldable pub count_rows : (ℕ → ℕ → Bool) → ℕ → ℕ → ℕ → ℕ → ℕ
count_rows f o k x zero = 0
count_rows f o k x (suc j) = count (f x) o k + count_rows f o k (suc x) j

-- b is the truth value asked for.
abbrev pub agree : Bool → Bool → Bool
agree true b = b
agree false b = not b

-- Whether x and y get the answer that p and q say.
abbrev pub gets : ℕ → ℕ → List ℕ → Bool → Bool → ℕ → ℕ → Bool
gets o k ws p q x y = agree p (answers o k ws is x y) && agree q (answers o k ws isnt x y)

-- The four counts over j nodes from x on: none, yes, no, both.
abbrev pub four_counts : ℕ → ℕ → List ℕ → ℕ → ℕ → List ℕ
four_counts o k ws x j =
    count_rows (gets o k ws false false) o k x j
    ∷ count_rows (gets o k ws true false) o k x j
    ∷ count_rows (gets o k ws false true) o k x j
    ∷ count_rows (gets o k ws true true) o k x j
    ∷ []

-- The figures: those of the objects, then those of the kinds.
unfoldable pub figures : ℕ → ℕ → List ℕ → List ℕ
figures o k ws = four_counts o k ws 0 o ++ four_counts o k ws o k
