-- Tests that decide a statement: they pass exactly if it holds.
use Rattle.std.specs.Prelude.{◌≡◌, Bool, true, ◌↔◌}

-- The test passes exactly if P holds.
abbrev pub Decides : Bool → Type 0 → Type 0
Decides b P = (b ≡ true) ↔ P
