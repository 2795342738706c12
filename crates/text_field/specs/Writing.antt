-- What a writer does to the text that it is lent.
use Rattle.std.specs.Prelude.{ℕ, ◌≡◌, List, length}
use Rattle.theory_laws.specs.Over.{over}

-- The text l became l' by ws written over its front, which is r bytes.
pub record Wrote (ws l l' : List ℕ) (r : ℕ) : Type 0 where
  pub list : l' ≡ over ws l
  pub size : r ≡ length ws
