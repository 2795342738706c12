-- What the search's functions say of the distances that they leave.
use Rattle.std.specs.Prelude.{◌≡◌, Bool, false, List, ℕ}

-- A flag that is false says that the places are as they were; true says nothing.
abbrev pub Kept : Bool → List ℕ → List ℕ → Type 0
Kept r before after = r ≡ false → after ≡ before
