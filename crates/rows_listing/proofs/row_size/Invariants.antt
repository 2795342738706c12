use Prim.Native.Nat.{◌+◌, ◌-◌, ◌*◌, ◌≤◌}
use mathlib.Core.Path.{◌≡◌}
use Rattle.rows_steps.specs.Listing.{ones_from}
use Rattle.rows_listing.proofs.row_size.Given as goal

abbrev pub invariant-loop-word : goal.invariant-loop-word
invariant-loop-word l = (l.size + ones_from (l.a + l.word-index) (l.w - l.word-index) l.rows ≡ ones_from l.a l.w l.rows) × (l.size ≤ l.word-index * 64)
