use mathlib.Core.Path.{◌≡◌}
use lib.ListN.{drop}
use Rattle.theory.specs.Origins.{chosen}
use Rattle.rows_steps.specs.Steps.{is_links, isnt_links}
use Rattle.rows_links.proofs.put_links.Given as goal

abbrev pub invariant-loop-word : goal.invariant-loop-word
invariant-loop-word l =
    (is_links l.w (chosen l.set l.words) l.initial.yeses ≡ is_links l.w (chosen l.set (drop l.word-index l.words)) l.yeses)
    × (isnt_links l.o l.w (chosen l.set l.words) l.initial.noes ≡ isnt_links l.o l.w (chosen l.set (drop l.word-index l.words)) l.noes)
