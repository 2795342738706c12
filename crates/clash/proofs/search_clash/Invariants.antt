-- The loop's invariant: what is left to search gives what the whole does, and the bytes past the nodes are as they were.
use Prim.Native.Nat.{◌-◌}
use mathlib.Core.Path.{◌≡◌}
use lib.ListN.{drop}
use Rattle.theory.specs.Origins.{chosen}
use Rattle.clash.specs.Table.{clash_nodes, first_clash, clash_search}
use Rattle.clash.proofs.search_clash.Given as goal

abbrev pub invariant-loop-x : goal.invariant-loop-x
invariant-loop-x l =
    (drop l.n l.marks ≡ drop l.n l.initial.marks)
    × (clash_search l.o l.k (chosen l.set l.words) ≡ first_clash l.o l.k (chosen l.set l.words) l.x (clash_nodes l.o l.k - l.x))
