-- What was counted and what is left to count make the whole.
use Prim.Native.Nat.{◌+◌, ◌-◌, ◌*◌, ◌≤◌}
use mathlib.Core.Path.{◌≡◌}
use lib.ListN.{length}
use Rattle.theory.specs.Completion.{row}
use Rattle.completion_cell.proofs.count_row.Given as goal

abbrev pub invariant-loop-byte : goal.invariant-loop-byte
invariant-loop-byte l =
    (l.size ≤ 2 * l.byte-index) × (length (row 0 l.fn.marks l.fn.o (l.fn.n - l.fn.o)) ≡ l.size + length (row 0 l.fn.marks (l.fn.o + l.byte-index) (l.fn.n - (l.fn.o + l.byte-index))))
