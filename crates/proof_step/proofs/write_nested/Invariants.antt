use mathlib.Core.Path.{◌≡◌}
use lib.ListN.{length}
use Rattle.theory_laws.specs.Over.{over}
use Rattle.proof_step.proofs.Contents.{front}
use Rattle.proof_step.proofs.write_nested.Given as goal

abbrev pub invariant-loop-i : goal.invariant-loop-i
invariant-loop-i l = record { long : length l.list ≡ length l.initial.list; written : l.list ≡ over (front l.base l.step l.count l.i) l.initial.list }
