use Prim.Native.Nat.{◌^◌, ◌<◌}
use mathlib.Core.Path.{◌≡◌}
use lib.ListN.{length}
use Rattle.rows_steps.specs.Members.{members}
use Rattle.rows_steps.specs.Steps.{gather_nodes}
use Rattle.rows_filling.specs.Below.{Below}
use Rattle.rows_filling.proofs.gather_word.Given as goal

abbrev pub invariant-loop-left : goal.invariant-loop-left
invariant-loop-left l =
    (l.left < 2 ^ 64) × Below l.base l.n l.left × (length l.row ≡ length l.initial.row) × (gather_nodes l.w l.base (members l.word) l.rows l.initial.row ≡ gather_nodes l.w l.base (members l.left) l.rows l.row)

abbrev pub decreases-loop-left : goal.decreases-loop-left
decreases-loop-left l = l.left
