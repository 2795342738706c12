-- Each turn keeps the sums small and leaves fewer files to come, or is the last.
use Rattle.std.proofs.Common.{suc, ◌-◌, ◌≤◌}
use mathlib.Core.Bool.{cond}
use Rattle.fleet_text.specs.Sums.{Sums}
use Rattle.fleet.proofs.main.Given as goal

abbrev pub invariant-loop-going : goal.invariant-loop-going
invariant-loop-going l = (l.left ≤ 65536) × Sums (65536 - l.left) l.sums

abbrev pub decreases-loop-going : goal.decreases-loop-going
decreases-loop-going l = cond l.going (suc l.left) 0
