use mathlib.Core.Path.{sym, ◌∙◌}
use native.Mathlib.Omega.{arith}
use Rattle.mend.proofs.Outcomes.{told_few, mend_unmarked, mend_short, all_asks, mend_done}
use Rattle.mend.proofs.mend_checked.Goals as goal

pub returns-then-marks-n : goal.returns-then-marks-n
returns-then-marks-n c =
    mend_unmarked c.args.o c.args.k c.args.n c.args.words.now c.args.kept.now c.args.dropped.now c.args.marks.now c.if-marks-n.true

pub overflow_cast-all : goal.overflow_cast-all
overflow_cast-all c = omega (arith, c.requires.net.short)

pub returns-then-is_short : goal.returns-then-is_short
returns-then-is_short c =
    mend_short c.args.o c.args.k c.args.n c.args.words.now c.args.kept.now c.args.dropped.now c.args.marks.now c.if-marks-n.false
    (sym c.is_short.ensures ∙ c.if-is_short.true) c.clear.ensures

pub mend_all-counts-requires : goal.mend_all-counts-requires
mend_all-counts-requires c =
    let t = all_asks c.args.o c.args.k c.args.n c.args.words.now c.args.kept.now c.args.dropped.now c.args.marks.now c.if-marks-n.false
    (sym c.is_short.ensures ∙ c.if-is_short.false) c.requires.net c.requires.size in
    record {
      size = t.0;
      few = t.1.0;
      inside = t.1.1.0;
      places = t.1.1.1.0;
      entries = t.1.1.1.1.0;
      room = t.1.1.1.1.1;
    }

pub overflow_cast-left : goal.overflow_cast-left
overflow_cast-left c =
    omega (arith, (told_few c.args.o c.args.k c.args.words.now c.requires.net c.mend_all-counts.ensures.counts).0)

pub overflow_cast-lost : goal.overflow_cast-lost
overflow_cast-lost c =
    omega (arith, (told_few c.args.o c.args.k c.args.words.now c.requires.net c.mend_all-counts.ensures.counts).1)

pub returns : goal.returns
returns c =
    mend_done c.args.o c.args.k c.args.n c.args.words.now c.args.kept.now c.args.dropped.now c.args.marks.now c.if-marks-n.false
    (sym c.is_short.ensures ∙ c.if-is_short.false) c.mend_all-counts.ensures.kept c.mend_all-counts.ensures.dropped c.mend_all-counts.ensures.counts c.clear-2.ensures c.mend_all-counts.ensures.past
