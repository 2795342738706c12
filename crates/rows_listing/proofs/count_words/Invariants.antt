use Prim.Native.Nat.{◌+◌, ◌-◌, ◌*◌, ◌≤◌}
use mathlib.Core.Path.{◌≡◌}
use lib.ListN.{length}
use Rattle.rows_steps.specs.Listing.{all_pairs}
use Rattle.rows_listing.proofs.count_words.Given as goal

abbrev pub invariant-loop-x : goal.invariant-loop-x
invariant-loop-x l = (l.size + length (all_pairs l.w l.x (l.n - l.x) l.yeses l.noes) ≡ length (all_pairs l.w 0 l.n l.yeses l.noes)) × (l.size ≤ l.x * 2048)
