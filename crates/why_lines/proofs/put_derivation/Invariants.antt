use Prim.Native.Nat.{◌*◌, ◌≤◌}
use mathlib.Core.Path.{◌≡◌}
use lib.ListN.{length, take, drop}
use Rattle.std.specs.Slice.Iter.{chunks_exact_rest, chunks_exact_size}
use Rattle.text_field.specs.Writing.{Wrote}
use Rattle.derivation_lines.specs.Flat.{lines_of}
use Rattle.why_line.specs.Text.{line_room, lines_text}
use Rattle.why_lines.proofs.put_derivation.Given as goal

abbrev pub invariant-loop-n : goal.invariant-loop-n
invariant-loop-n l =
    (4 * l.n-iterator.count ≤ length l.list)
    × (chunks_exact_size l.n-iterator.iter ≡ 4)
    × (chunks_exact_rest l.n-iterator.iter ≡ drop (4 * l.n-iterator.count) l.list)
    × (l.at ≤ l.n-iterator.count * line_room)
    × Wrote (lines_text l.told l.words 0 (take l.n-iterator.count (lines_of l.list))) l.initial.text l.text l.at
