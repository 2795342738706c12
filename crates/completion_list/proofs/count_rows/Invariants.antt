-- What was counted and what is left to count make the whole, and the bytes past the nodes are as they were.
use Prim.Native.Nat.{◌+◌, ◌-◌, ◌*◌, ◌≤◌}
use mathlib.Core.Path.{◌≡◌}
use lib.ListN.{length, drop}
use Rattle.theory.specs.Origins.{chosen}
use Rattle.theory.specs.Completion.{rows, complete}
use Rattle.completion_list.proofs.count_rows.Given as goal

abbrev pub invariant-loop-x : goal.invariant-loop-x
invariant-loop-x l =
    (drop l.n l.marks ≡ drop l.n l.initial.marks) × (l.size ≤ 2048 * l.x) × (length (complete l.o l.k (chosen l.set l.words)) ≡ l.size + length (rows l.o l.k (chosen l.set l.words) l.x (l.n - l.x)))
