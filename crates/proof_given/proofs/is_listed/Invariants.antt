use mathlib.Core.Path.{◌≡◌}
use Rattle.proof_given.proofs.Loops.{chosen_from}
use Rattle.proof_given.proofs.is_listed.Given as goal

abbrev pub invariant-loop-link : goal.invariant-loop-link
invariant-loop-link l = chosen_from l.set l.word l.words 0 ≡ chosen_from l.set l.word l.words l.link-index
