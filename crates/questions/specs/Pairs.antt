-- The pairs of a list of numbers, and which of them may be asked.
use Rattle.std.specs.Prelude.{ℕ, ◌+◌, ◌*◌, ◌/◌, ◌%◌, ◌<◌, ◌≤◌, ◌≡◌, List, length, get_or}
use Rattle.net.specs.Good.{GoodPair}

-- How many pairs there are: pair i is x at 2i and y at 2i + 1.
abbrev pub pairs_in : List ℕ → ℕ
pairs_in ps = length ps / 2

abbrev pub subject_at : List ℕ → ℕ → ℕ
subject_at ps i = get_or ps (2 * i) 0

abbrev pub kind_at : List ℕ → ℕ → ℕ
kind_at ps i = get_or ps (2 * i + 1) 0

-- The most pairs of one call (number 10).
abbrev pub pair_limit : ℕ
pair_limit = 64

-- What number 10 leaves: whole pairs, at most 64, and a byte for each in the list bs.
pub record GoodPairs (ps bs : List ℕ) : Type 0 where
  pub whole : length ps % 2 ≡ 0
  pub few : pairs_in ps ≤ 64
  pub room : pairs_in ps ≤ length bs

-- Over n nodes, the first o of them objects: pair i may be asked, and no pair after it may.
pub record LastGood (o n : ℕ) (ps : List ℕ) (i : ℕ) : Type 0 where
  pub below : i < pairs_in ps
  pub good : GoodPair o n (subject_at ps i) (kind_at ps i)
  pub last : (j : ℕ) → i < j → j < pairs_in ps → GoodPair o n (subject_at ps j) (kind_at ps j) → ⊥
