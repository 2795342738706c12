use native.Mathlib.Omega.{arith}
use Rattle.compact_thin.proofs.Descending.{thins, thins_goes, thins_stays, thins_all}
use Rattle.compact_thin.proofs.thin_words.Goals as goal

pub loop-i-init : goal.loop-i-init
loop-i-init c =
    thins c.args.o c.args.k c.args.n c.args.count c.args.words.now c.args.marks.now c.requires.net

pub thin_one-requires : goal.thin_one-requires
thin_one-requires c =
    record {
      size = c.requires.size;
      place = (omega (arith, c.loop-i.invariant.low), omega (arith, c.loop-i.invariant.fewer, c.loop-i.invariant.long, c.requires.part));
      net = c.loop-i.invariant.net;
      room = omega (arith, c.loop-i.invariant.marks_long, c.requires.room);
    }

pub loop-i-preserved-then-thin_one : goal.loop-i-preserved-then-thin_one
loop-i-preserved-then-thin_one c =
    thins_goes c.args.o c.args.k c.args.n c.args.count c.args.words.now c.args.marks.now c.requires.part c.loop-i.invariant (omega arith) c.thin_one.ensures.answer c.thin_one.ensures.left c.thin_one.auto.words c.thin_one.auto.marks c.thin_one.ensures.past c.if-thin_one.true

pub loop-i-preserved : goal.loop-i-preserved
loop-i-preserved c =
    thins_stays c.args.o c.args.k c.args.n c.args.count c.args.words.now c.args.marks.now c.requires.part c.loop-i.invariant (omega arith) c.thin_one.ensures.answer c.thin_one.ensures.left c.thin_one.auto.words c.thin_one.auto.marks c.thin_one.ensures.past c.if-thin_one.false

pub returns : goal.returns
returns c =
    record {
      kept = thins_all c.args.o c.args.k c.args.n c.args.count c.args.words.now c.args.marks.now c.requires.part c.loop-i.invariant (omega arith);
      fewer = c.loop-i.invariant.fewer;
      past = c.loop-i.invariant.marks_past;
    }
