use Prim.Native.Nat.{◌-◌}
use Rattle.rows_steps.specs.Listing.{row_pairs}
use Rattle.rows_listing.proofs.Written.{Written}
use Rattle.rows_listing.proofs.write_row.Given as goal

abbrev pub invariant-loop-i : goal.invariant-loop-i
invariant-loop-i l = Written (row_pairs l.x l.a 0 l.w l.yeses l.noes) (row_pairs l.x l.a l.i (l.w - l.i) l.yeses l.noes) l.initial.list l.list l.at
