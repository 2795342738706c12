-- The loop has run i levels.
use Prim.Native.Nat.{◌+◌}
use mathlib.Core.Path.{◌≡◌}
use lib.ListN.{length}
use Rattle.theory.specs.Words.{sign_at}
use Rattle.theory.specs.Reasons.{goal}
use Rattle.theory.specs.Searches.{arcs, levels}
use Rattle.theory.specs.Origins.{chosen}
use Rattle.reason_search.proofs.find_distances.Given as goal

abbrev pub invariant-loop-i : goal.invariant-loop-i
invariant-loop-i l =
    (length l.places ≡ l.n + l.n) × (l.places ≡ levels (arcs l.n (sign_at l.sign) (chosen l.set l.words)) (l.n + l.n) (goal l.n (sign_at l.sign) l.y) l.i)
