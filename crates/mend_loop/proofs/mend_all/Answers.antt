use Prim.Native.Nat.{◌<◌, ◌≤◌}
use mathlib.Core.Path.{refl}
use mathlib.Core.List.{[], ◌∷◌, ◌++◌}
use native.Mathlib.Omega.{arith}
use lib.ListN.{length, get_or, take}
use Rattle.theory.proofs.Inside.{inside_at}
use Rattle.mend_loop.proofs.Going.{going, going_keep, going_drop, kind_bound, kept_over, dropped_over, count_end, lost_end}
use Rattle.mend_loop.proofs.mend_all.Goals as goal
use Rattle.mend_loop.proofs.mend_all.Goals.{in-Some, in-None}

pub loop-word-init : goal.loop-word-init
loop-word-init c = going c.args.o c.args.k c.args.n c.args.words.now c.args.kept.now c.args.dropped.now c.args.marks.now

pub try_word-requires : goal.try_word-requires
try_word-requires c =
    record {
      size = c.requires.size;
      few = c.requires.few;
      place = omega (arith, c.loop-word.invariant.told, c.loop-word.invariant.kept_long, c.requires.places);
      inside = c.loop-word.invariant.inside;
      ends = inside_at c.args.words.now c.requires.inside c.loop-word.word-index (omega arith);
      room = omega (arith, c.loop-word.invariant.marks_long, c.requires.room);
    }

pub overflow_mul-lost : goal.overflow_mul-lost
overflow_mul-lost c =
    omega (arith, c.loop-word.invariant.told, c.loop-word.invariant.dropped_long, c.requires.entries)

pub put_drop-requires : goal.put_drop-requires
put_drop-requires c =
    omega (arith, c.loop-word.invariant.told, c.loop-word.invariant.dropped_long, c.requires.entries)

pub overflow_add-lost : goal.overflow_add-lost
overflow_add-lost c = omega (arith, c.loop-word.invariant.told)

pub overflow_add-count : goal.overflow_add-count
overflow_add-count c = omega (arith, c.loop-word.invariant.told)

pub overflow_cast-clash-in-Some : goal.overflow_cast-clash-in-Some
overflow_cast-clash-in-Some c =
    omega (arith, c.requires.few, kind_bound c.args.o c.args.k (take c.loop-word.count c.loop-word.kept ++ get_or c.args.words.now c.loop-word.word-index 0 ∷ []) c.in-Some.clash.node, c.in-Some.ensures.clash)

pub loop-word-preserved : goal.loop-word-preserved
loop-word-preserved c =
    let h : c.loop-word.word-index < length c.args.words.now = omega arith in
    elim c.match-try_word.branch [
      | in-Some w ↦ rw (w.dropped-is, w.count-is, w.lost-is, w.in-Some.ensures.left)
          (going_drop c.args.o c.args.k c.args.n c.args.words.now c.args.kept.now c.args.dropped.now c.args.marks.now c.requires.size c.requires.places c.requires.entries c.loop-word.invariant h w.in-Some.ensures.clash.0 c.try_word.auto.marks c.try_word.ensures.past w.in-Some.ensures.clash.1 w.in-Some.ensures.clash.2 w.put_drop.ensures)
      | in-None w ↦ rw (w.dropped-is, w.count-is, w.lost-is, w.in-None.ensures.left)
          (going_keep c.args.o c.args.k c.args.n c.args.words.now c.args.kept.now c.args.dropped.now c.args.marks.now c.requires.size c.requires.places c.requires.entries c.loop-word.invariant h refl c.try_word.auto.marks c.try_word.ensures.past w.in-None.ensures.clash (inside_at c.args.words.now c.requires.inside c.loop-word.word-index h))
    ]

pub returns : goal.returns
returns c =
    let h : length c.args.words.now ≤ c.loop-word.word-index = omega arith in
    record {
      kept = kept_over c.args.o c.args.k c.args.n c.args.words.now c.args.kept.now c.args.dropped.now c.args.marks.now c.requires.size c.requires.places c.requires.entries c.loop-word.invariant h;
      dropped = dropped_over c.args.o c.args.k c.args.n c.args.words.now c.args.kept.now c.args.dropped.now c.args.marks.now c.requires.size c.requires.places c.requires.entries c.loop-word.invariant h;
      counts = (count_end c.args.o c.args.k c.args.n c.args.words.now c.args.kept.now c.args.dropped.now c.args.marks.now c.requires.size c.requires.places c.requires.entries c.loop-word.invariant h, lost_end c.args.o c.args.k c.args.n c.args.words.now c.args.kept.now c.args.dropped.now c.args.marks.now c.requires.size c.requires.places c.requires.entries c.loop-word.invariant h);
      past = c.loop-word.invariant.marks_past;
    }
