use mathlib.Core.Path.{◌≡◌}
use mathlib.Core.List.{◌++◌}
use lib.ListN.{take, drop}
use Rattle.unit_command.proofs.Obeying.{kept}
use Rattle.unit_command.proofs.clear_markers.Given as goal

abbrev pub invariant-loop-mark : goal.invariant-loop-mark
invariant-loop-mark l = l.mark-items ≡ kept l.markers (take l.mark-index l.initial.mark-items) ++ drop l.mark-index l.initial.mark-items
