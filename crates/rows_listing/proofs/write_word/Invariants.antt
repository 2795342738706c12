use Prim.Native.Nat.{◌^◌, ◌<◌}
use lib.Bits.{bit_or}
use Rattle.rows_steps.specs.Members.{members}
use Rattle.rows_steps.specs.Listing.{word_pairs}
use Rattle.rows_listing.proofs.Written.{Written}
use Rattle.rows_listing.proofs.write_word.Given as goal

abbrev pub invariant-loop-left : goal.invariant-loop-left
invariant-loop-left l = (l.left < 2 ^ 64) × Written (word_pairs l.x l.base l.some l.more (members (bit_or l.some l.more))) (word_pairs l.x l.base l.some l.more (members l.left)) l.initial.list l.list l.at

abbrev pub decreases-loop-left : goal.decreases-loop-left
decreases-loop-left l = l.left
