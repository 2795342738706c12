-- What the clash test promises.
use Rattle.std.specs.Prelude.{ℕ, ◌+◌, ◌≤◌, ◌≡◌, List, length, None, Ok, Some}
use Rattle.theory.specs.Clashes.{ClashAt, SmallestClash}
use Rattle.theory.specs.Origins.{chosen}
use Rattle.promises.specs.Engines.{Engine, Read}

pub record Clashing (e : Engine) : Type 0 where
  -- A clash that is given is the smallest one of the chosen words.
  pub at : (o k : ℕ) (ws : List ℕ) (set : ℕ) (m : List ℕ) (x y : ℕ) → (e.clash_test o k ws set m).answer ≡ Ok (Some (x, y)) → SmallestClash o k (chosen set ws) x y
  -- Number 7: there is none.
  pub nowhere : (o k : ℕ) (ws : List ℕ) (set : ℕ) (m : List ℕ) → (e.clash_test o k ws set m).answer ≡ Ok None → (x y : ℕ) → ClashAt o k (chosen set ws) x y → ⊥
  -- Over a net and a set of origins, and with marks long enough, the smallest clash is given, and number 7 where there is none.
  pub given : (o k : ℕ) (ws : List ℕ) (set : ℕ) (m : List ℕ) → Read o k ws set → o + k ≤ length m → (x y : ℕ) → SmallestClash o k (chosen set ws) x y
      → (e.clash_test o k ws set m).answer ≡ Ok (Some (x, y))
  pub none : (o k : ℕ) (ws : List ℕ) (set : ℕ) (m : List ℕ) → Read o k ws set → o + k ≤ length m → ((x y : ℕ) → ClashAt o k (chosen set ws) x y → ⊥)
      → (e.clash_test o k ws set m).answer ≡ Ok None
