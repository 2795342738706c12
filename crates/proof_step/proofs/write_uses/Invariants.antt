use mathlib.Core.Path.{◌≡◌}
use Rattle.theory.specs.Origins.{chosen}
use lib.ListN.{length}
use Rattle.theory_laws.specs.Over.{over}
use Rattle.proof_step.proofs.Uses.{used_from}
use Rattle.proof_step.proofs.write_uses.Given as goal

abbrev pub invariant-loop-i : goal.invariant-loop-i
invariant-loop-i l = record { long : length l.list ≡ length l.initial.list; written : l.list ≡ over (used_from (chosen l.set l.words) l.path l.first l.links l.node l.initial.list l.i) l.initial.list }
