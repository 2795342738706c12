use mathlib.Core.Path.{◌≡◌}
use Rattle.theory.specs.Origins.{chosen}
use lib.ListN.{length}
use Rattle.theory_laws.specs.Over.{over}
use Rattle.proof_form.specs.Ours.{close_steps}
use Rattle.proof_form.specs.FromReason.{hops_from}
use Rattle.proof_step.proofs.write_closes.Given as goal

abbrev pub invariant-loop-i : goal.invariant-loop-i
invariant-loop-i l = record { long : length l.list ≡ length l.initial.list; written : l.list ≡ over (close_steps l.node (hops_from (chosen l.set l.words) l.path l.first l.i)) l.initial.list }
