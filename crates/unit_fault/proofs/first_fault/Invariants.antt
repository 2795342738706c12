use Prim.Native.Nat.{◌+◌}
use mathlib.Core.Path.{◌≡◌}
use mathlib.Core.Bool.{false}
use lib.ListN.{drop}
use Rattle.unit_program.specs.Faults.{sound_prefix}
use Rattle.unit_fault.proofs.first_fault.Given as goal

abbrev pub invariant-loop-i : goal.invariant-loop-i
invariant-loop-i l = sound_prefix l.n false l.program ≡ l.i + sound_prefix l.n l.inside (drop l.i l.program)
