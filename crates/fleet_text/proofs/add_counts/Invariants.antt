use mathlib.Core.Path.{◌≡◌}
use Rattle.fleet_text.proofs.Adding.{added}
use Rattle.fleet_text.proofs.add_counts.Given as goal

abbrev pub invariant-loop-i : goal.invariant-loop-i
invariant-loop-i l = l.sums ≡ added l.i l.initial.sums l.counts
