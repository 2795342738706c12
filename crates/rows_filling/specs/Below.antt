-- Words whose bits stand at nodes.
use Rattle.std.specs.Prelude.{ℕ, ◌+◌, ◌<◌, ◌≡◌, true}
use Rattle.theory.specs.Marks.{has}

-- The nodes of the word v, counted from base on, are below n.
abbrev pub Below : ℕ → ℕ → ℕ → Type 0
Below base n v = (t : ℕ) → t < 64 → has t v ≡ true → base + t < n
