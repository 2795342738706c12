use mathlib.Core.Path.{sym, ◌∙◌}
use native.Mathlib.Omega.{arith}
use Rattle.theory.specs.Origins.{chosen}
use Rattle.questions.specs.Pairs.{pairs_in, subject_at, kind_at}
use Rattle.questions.proofs.Pairs.{pair_left, byte_stored, bytes_none, bytes_all, marks_whole, marks_go, marks_end}
use Rattle.questions.proofs.ask_pairs.Goals as goal

pub loop-i-init : goal.loop-i-init
loop-i-init c =
    let words = chosen c.args.set c.args.words.now in
    (bytes_none c.args.o c.args.n words c.args.pairs.now c.args.answers.now, marks_whole c.args.o c.args.n words c.args.pairs.now (pairs_in c.args.pairs.now) c.args.marks.now, λ h. absurd (omega (arith, h)))

pub ask_pair-turn-requires : goal.ask_pair-turn-requires
ask_pair-turn-requires c =
    record {
      net = c.requires.net;
      size = c.requires.size;
      room = omega (arith, c.loop-i.auto.marks, c.requires.room);
      known = c.loop-i.invariant.2;
    }

pub loop-i-preserved : goal.loop-i-preserved
loop-i-preserved c =
    let words = chosen c.args.set c.args.words.now in
    let left = pair_left c.args.o c.args.n words (subject_at c.args.pairs.now c.loop-i.i) (kind_at c.args.pairs.now c.loop-i.i) c.loop-i.marks (omega (arith, c.loop-i.auto.marks, c.requires.room)) c.ask_pair-turn.ensures.asked in (
      byte_stored c.args.o c.args.n words c.args.pairs.now c.args.answers.now c.loop-i.answers c.loop-i.i c.asked_byte.result c.loop-i.invariant.0 (omega (arith, c.requires.bytes)) (c.asked_byte.ensures ∙ left.0),
      c.loop-i.invariant.1 ∙ marks_go c.args.o c.args.n words c.args.pairs.now (pairs_in c.args.pairs.now) c.loop-i.i c.loop-i.marks c.ask_pair-turn.new.marks (omega arith) left.1,
      c.ask_pair-turn.ensures.known,
    )

pub returns : goal.returns
returns c =
    let words = chosen c.args.set c.args.words.now in record {
      answers = c.loop-i.invariant.0 ∙ bytes_all c.args.o c.args.n words c.args.pairs.now c.args.answers.now (omega (arith, c.loop-i-test.false, c.loop-i.auto.i-end));
      marks = sym (c.loop-i.invariant.1 ∙ marks_end c.args.o c.args.n words c.args.pairs.now (pairs_in c.args.pairs.now) c.loop-i.i c.loop-i.marks (omega (arith, c.loop-i-test.false)));
    }
