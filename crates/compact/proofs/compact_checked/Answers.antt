use native.Mathlib.Omega.{arith}
use Rattle.compact.proofs.Outcomes.{compact_short, tidied_fits, tidied_net, compact_done}
use Rattle.compact.proofs.compact_checked.Goals as goal

pub returns-then-marks-n : goal.returns-then-marks-n
returns-then-marks-n c =
    compact_short c.args.o c.args.k c.args.n c.args.list.now c.args.marks.now c.if-marks-n.true

pub thin_words-left-requires : goal.thin_words-left-requires
thin_words-left-requires c =
    record {
      size = c.requires.size;
      part = (tidied_fits c.args.o c.args.k c.args.n c.args.list.now c.args.marks.now c.sort_words.ensures c.remove_repeats-count.ensures.left c.remove_repeats-count.ensures.count).0;
      net = tidied_net c.args.o c.args.k c.args.n c.args.list.now c.args.marks.now c.sort_words.ensures c.remove_repeats-count.ensures.left c.remove_repeats-count.ensures.count c.requires.net;
      room = c.if-marks-n.false;
    }

pub zero_from-requires : goal.zero_from-requires
zero_from-requires c =
    omega (
      arith,
      c.thin_words-left.ensures.fewer,
      c.thin_words-left.auto.words,
      (tidied_fits c.args.o c.args.k c.args.n c.args.list.now c.args.marks.now c.sort_words.ensures c.remove_repeats-count.ensures.left c.remove_repeats-count.ensures.count).0,
    )

pub overflow_cast-size : goal.overflow_cast-size
overflow_cast-size c =
    omega (
      arith,
      c.requires.net.short,
      c.thin_words-left.ensures.fewer,
      (tidied_fits c.args.o c.args.k c.args.n c.args.list.now c.args.marks.now c.sort_words.ensures c.remove_repeats-count.ensures.left c.remove_repeats-count.ensures.count).1,
    )

pub returns : goal.returns
returns c =
    compact_done c.args.o c.args.k c.args.n c.args.list.now c.args.marks.now c.sort_words.ensures c.remove_repeats-count.ensures.left c.remove_repeats-count.ensures.count
    c.if-marks-n.false c.thin_words-left.new.words c.thin_words-left.ensures.kept c.thin_words-left.ensures.fewer
    c.thin_words-left.auto.words c.zero_from.ensures c.clear.ensures c.thin_words-left.ensures.past
