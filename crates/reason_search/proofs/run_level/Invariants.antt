-- The loop has come to a word: the level over all chosen words is the level over the chosen of the rest, from where the places stand.
use mathlib.Core.Path.{◌≡◌}
use lib.ListN.{drop}
use Rattle.theory.specs.Words.{sign_at}
use Rattle.theory.specs.Searches.{arcs, level}
use Rattle.theory.specs.Origins.{chosen}
use Rattle.reason_search.specs.Search.{Kept}
use Rattle.reason_search.proofs.run_level.Given as goal

abbrev pub invariant-loop-word : goal.invariant-loop-word
invariant-loop-word l =
    (level l.i (arcs l.n (sign_at l.sign) (chosen l.set l.words)) l.initial.places ≡ level l.i (arcs l.n (sign_at l.sign) (chosen l.set (drop l.word-index l.words))) l.places)
    × Kept l.opened l.initial.places l.places
