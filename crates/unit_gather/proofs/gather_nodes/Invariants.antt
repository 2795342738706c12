use mathlib.Core.Path.{◌≡◌}
use lib.ListN.{length, drop}
use Rattle.theory.specs.Origins.{chosen}
use Rattle.unit_gather.specs.Aside.{gather}
use Rattle.unit_gather.proofs.gather_nodes.Given as goal

abbrev pub invariant-loop-word : goal.invariant-loop-word
invariant-loop-word l = record { long : length l.aside ≡ length l.initial.aside; left : gather l.c l.marks (chosen l.set l.words) l.initial.aside ≡ gather l.c l.marks (chosen l.set (drop l.word-index l.words)) l.aside }
