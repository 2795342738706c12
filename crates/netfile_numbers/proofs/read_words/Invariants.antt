use Prim.Native.Nat.{◌*◌, ◌≤◌}
use mathlib.Core.Path.{◌≡◌}
use lib.ListN.{length, drop}
use Rattle.std.specs.Slice.Iter.{chunks_exact_rest, chunks_exact_size}
use Rattle.theory_laws.specs.Over.{over}
use Rattle.netfile_numbers.specs.Bytes.{u32s}
use Rattle.netfile_numbers.proofs.read_words.Given as goal

abbrev pub invariant-loop-i : goal.invariant-loop-i
invariant-loop-i l =
    (l.i-iterator.count * 4 ≤ length l.body)
    × (chunks_exact_size l.i-iterator.iter ≡ 4)
    × (chunks_exact_rest l.i-iterator.iter ≡ drop (l.i-iterator.count * 4) l.body)
    × (length l.words ≡ length l.initial.words)
    × (l.words ≡ over (u32s l.i-iterator.count l.body) l.initial.words)
