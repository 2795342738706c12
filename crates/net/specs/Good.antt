-- What may be asked of a net of n nodes, the first o of them objects.
use Rattle.std.specs.Prelude.{ℕ, ◌<◌, ◌≤◌}

-- A pair: x is a node, y a kind.
pub record GoodPair (o n x y : ℕ) : Type 0 where
  pub node : x < n
  pub low : o ≤ y
  pub high : y < n

-- A statement: such a pair, and the sign is 0 or 1.
pub record GoodStatement (o n x y sign : ℕ) : Type 0 where
  pub pair : GoodPair o n x y
  pub signed : sign ≤ 1
