use Prim.Native.Nat.{◌-◌}
use Rattle.rows_steps.specs.Listing.{all_pairs}
use Rattle.rows_listing.proofs.Written.{Written}
use Rattle.rows_listing.proofs.write_rows.Given as goal

abbrev pub invariant-loop-x : goal.invariant-loop-x
invariant-loop-x l = Written (all_pairs l.w 0 l.n l.yeses l.noes) (all_pairs l.w l.x (l.n - l.x) l.yeses l.noes) l.initial.list l.list l.at
