use mathlib.Core.Path.{refl, sym}
use native.Mathlib.Omega.{arith}
use lib.ListN.{length-set}
use Rattle.compact_thin.proofs.Trying.{S_long, scanned_net, word_legal, tested, gone, stays}
use Rattle.compact_thin.proofs.thin_one.Goals as goal

pub slice_bounds-is_supported-end : goal.slice_bounds-is_supported-end
slice_bounds-is_supported-end c =
    simp length-set (omega (arith, c.requires.place.1))

pub slice_bounds-is_supported-end-2 : goal.slice_bounds-is_supported-end-2
slice_bounds-is_supported-end-2 c =
    sym (S_long c.args.i c.args.end c.args.words.now c.requires.place.0 c.requires.place.1)

pub is_supported-supported-requires : goal.is_supported-supported-requires
is_supported-supported-requires c =
    record {
      net = scanned_net c.args.i c.args.end c.args.words.now c.requires.place.0 c.requires.place.1 c.args.o c.args.k c.requires.net;
      legal = word_legal c.args.i c.args.end c.args.words.now c.requires.place.0 c.requires.place.1 c.args.o c.args.k c.requires.net;
      size = c.requires.size;
      room = c.requires.room;
    }

pub bounds-words-i-else-supported : goal.bounds-words-i-else-supported
bounds-words-i-else-supported c =
    simp length-set (omega (arith, c.requires.place.0, c.requires.place.1))

pub returns-then-supported : goal.returns-then-supported
returns-then-supported c =
    record {
      answer = tested c.args.i c.args.end c.args.words.now c.requires.place.0 c.requires.place.1 c.args.o c.args.k c.requires.net c.is_supported-supported.ensures.answer;
      left = gone c.args.i c.args.end c.args.words.now c.requires.place.0 c.requires.place.1 c.if-supported.true c.remove_at.ensures;
      past = c.is_supported-supported.ensures.past;
    }

pub returns-else-supported : goal.returns-else-supported
returns-else-supported c =
    record {
      answer = tested c.args.i c.args.end c.args.words.now c.requires.place.0 c.requires.place.1 c.args.o c.args.k c.requires.net c.is_supported-supported.ensures.answer;
      left = stays c.args.i c.args.end c.args.words.now c.requires.place.0 c.requires.place.1 c.if-supported.false refl;
      past = c.is_supported-supported.ensures.past;
    }
