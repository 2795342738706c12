-- The loop has come to a word: the next state over all chosen words is the one over the chosen of the rest, the best so far in hand.
use Prim.Native.Nat.{◌+◌}
use mathlib.Core.Path.{◌≡◌}
use lib.ListN.{drop}
use Rattle.theory.specs.Words.{sign_at}
use Rattle.theory.specs.Searches.{arcs, next}
use Rattle.theory.specs.Origins.{chosen}
use Rattle.reason_walk.proofs.next_state.Given as goal

abbrev pub invariant-loop-word : goal.invariant-loop-word
invariant-loop-word l =
    next (arcs l.n (sign_at l.sign) (chosen l.set l.words)) l.places l.state l.i (l.n + l.n) ≡ next (arcs l.n (sign_at l.sign) (chosen l.set (drop l.word-index l.words))) l.places l.state l.i l.best
