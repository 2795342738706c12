-- What a reason and a reason check promise: the reason is the shortest path that shows the statement, and the check accepts exactly the paths that do.
use Rattle.reason.specs.declared.ReasonError.TheVariants as reasoned
use Rattle.std.specs.Prelude.{ℕ, ◌+◌, ◌≤◌, ◌<◌, ◌≡◌, List, ◌++◌, length, get_or, drop, Err, Ok, false, true}
use Rattle.theory.specs.Words.{sign_at}
use Rattle.theory.specs.Nets.{Links}
use Rattle.theory.specs.Support.{Supported}
use Rattle.theory.specs.Reasons.{written, Shortest, Moves, goal, never, Distance}
use Rattle.theory.specs.Checks.{Passes}
use Rattle.theory.specs.Origins.{chosen}
use Rattle.net.specs.declared.Refusal.{Refusal}
use Rattle.promises.specs.Engines.{Engine}

-- The shortest reason: a path x, xs; ys of the net, and how long it is as it is written.
pub record ReasonOf (o k : ℕ) (ws : List ℕ) (x y sign size : ℕ) : Type 0 where
  pub xs : List ℕ
  pub ys : List ℕ
  pub shortest : Shortest o k (Links ws) x y (sign_at sign) xs ys
  pub long : size ≡ length (written x xs ys)

pub record Reasoning (e : Engine) : Type 0 where
  -- A reason that is done stands in front of the list; its number of places is given.
  pub done : (o k : ℕ) (ws : List ℕ) (set x y sign : ℕ) (d l : List ℕ) (size : ℕ) → (e.reason o k ws set x y sign d l).answer ≡ Ok size
      → (r : ReasonOf o k (chosen set ws) x y sign size) × ((e.reason o k ws set x y sign d l).list ≡ written x r.xs r.ys ++ drop size l) × (size ≤ length l)
  -- Number 7: the statement is not supported.
  pub unsupported : (o k : ℕ) (ws : List ℕ) (set x y sign : ℕ) (d l : List ℕ) → (e.reason o k ws set x y sign d l).answer ≡ Err reasoned.Unsupported
      → Supported o k (Links (chosen set ws)) x y (sign_at sign) → ⊥
  -- Number 8: the reason has more places than the list.
  pub short : (o k : ℕ) (ws : List ℕ) (set x y sign : ℕ) (d l : List ℕ) (size : ℕ) → (e.reason o k ws set x y sign d l).answer ≡ Err (reasoned.Short size)
      → ReasonOf o k (chosen set ws) x y sign size × (length l < size)
  -- The scratch of a reason that was not refused: each of its 2N places is the fewest links from there to the end, or says that there is no way.
  pub scratch : (o k : ℕ) (ws : List ℕ) (set x y sign : ℕ) (d l : List ℕ) → ((r : Refusal) → (e.reason o k ws set x y sign d l).answer ≡ Err (reasoned.Refused r) → ⊥)
      → (v : ℕ) → v < (o + k) + (o + k)
      → Distance (Moves (o + k) (Links (chosen set ws)) (sign_at sign)) (goal (o + k) (sign_at sign) y) v (get_or (e.reason o k ws set x y sign d l).scratch v never)
  -- The check says yes exactly to a path that shows the statement.
  pub holds : (o k : ℕ) (ws : List ℕ) (set x y sign : ℕ) (l : List ℕ) → e.reason_check o k ws set x y sign l ≡ Ok true → Passes o k (chosen set ws) x y (sign_at sign) l
  pub fails : (o k : ℕ) (ws : List ℕ) (set x y sign : ℕ) (l : List ℕ) → e.reason_check o k ws set x y sign l ≡ Ok false → Passes o k (chosen set ws) x y (sign_at sign) l → ⊥
  -- And what it says yes to is supported.
  pub sound : (o k : ℕ) (ws : List ℕ) (set x y sign : ℕ) (l : List ℕ) → e.reason_check o k ws set x y sign l ≡ Ok true → Supported o k (Links (chosen set ws)) x y (sign_at sign)
