-- The loop has come to node i and line n + 2i: the lines of all steps are those of the rest, in the list as it stands.
use Prim.Native.Nat.{◌+◌, ◌*◌}
use mathlib.Core.Path.{◌≡◌}
use lib.ListN.{length, get_or, drop}
use Rattle.explain_line.specs.Blocks.{way_at, step_lines, put_lines}
use Rattle.explain_line.proofs.write_steps.Given as goal

abbrev pub invariant-loop-i : goal.invariant-loop-i
invariant-loop-i l =
    (length l.list ≡ length l.initial.list)
    × (put_lines l.initial.list l.n (step_lines (way_at l.way) l.set l.words l.x (get_or l.nodes 0 0) (drop 1 l.nodes) l.n) ≡ put_lines l.list (l.n + 2 * l.i) (step_lines (way_at l.way) l.set l.words l.x (get_or l.nodes l.i 0) (drop (l.i + 1) l.nodes) (l.n + 2 * l.i)))
