-- The list is right at the classes below i.
use Prim.Native.Nat.{ℕ, ◌<◌}
use mathlib.Core.Path.{◌≡◌}
use lib.ListN.{length, get_or}
use Rattle.scan_link.specs.Classes.{word_in, lanes_for}
use Rattle.scan_link.proofs.table_of.Given as goal

abbrev pub invariant-loop-i : goal.invariant-loop-i
invariant-loop-i l = (length l.table ≡ 8) × ((k : ℕ) → k < l.i → get_or l.table k 0 ≡ lanes_for l.set l.sign (word_in k))
