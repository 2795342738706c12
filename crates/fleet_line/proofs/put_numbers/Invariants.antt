use Prim.Native.Nat.{◌*◌, ◌≤◌}
use lib.ListN.{drop}
use Rattle.fleet_line.specs.Line.{numbers_line}
use Rattle.fleet_line.proofs.Left.{Left}
use Rattle.fleet_line.proofs.put_numbers.Given as goal

abbrev pub invariant-loop-i : goal.invariant-loop-i
invariant-loop-i l = (l.at ≤ l.i * 21) × Left (numbers_line l.numbers) (numbers_line (drop l.i l.numbers)) l.initial.text l.text l.at
