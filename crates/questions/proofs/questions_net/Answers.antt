-- Each return is one clause of the table.
use mathlib.Core.Path.{sym, ◌∙◌}
use Rattle.theory.specs.Origins.{chosen}
use Rattle.questions.proofs.Bad.{good_pairs}
use Rattle.questions.proofs.Outcomes.{all_bad, all_short, all_done}
use Rattle.questions.proofs.questions_net.Goals as goal

pub returns-then-are_bad_pairs : goal.returns-then-are_bad_pairs
returns-then-are_bad_pairs c =
    all_bad c.args.o c.args.n (chosen c.args.set c.args.words.now) c.args.pairs.now c.args.answers.now c.args.marks.now (sym c.are_bad_pairs.ensures ∙ c.if-are_bad_pairs.true)

pub returns-then-marks-n : goal.returns-then-marks-n
returns-then-marks-n c =
    all_short c.args.o c.args.n (chosen c.args.set c.args.words.now) c.args.pairs.now c.args.answers.now c.args.marks.now (sym c.are_bad_pairs.ensures ∙ c.if-are_bad_pairs.false) c.if-marks-n.true

pub ask_pairs-requires : goal.ask_pairs-requires
ask_pairs-requires c =
    let good = (good_pairs c.args.pairs.now c.args.answers.now).0 (sym c.are_bad_pairs.ensures ∙ c.if-are_bad_pairs.false) in
    record {
      net = c.requires.net;
      size = c.requires.size;
      room = c.if-marks-n.false;
      bytes = good.room;
    }

pub returns : goal.returns
returns c =
    all_done c.args.o c.args.n (chosen c.args.set c.args.words.now) c.args.pairs.now c.args.answers.now c.args.marks.now (sym c.are_bad_pairs.ensures ∙ c.if-are_bad_pairs.false) c.if-marks-n.false
    c.ask_pairs.new.answers c.ask_pairs.new.marks c.ask_pairs.ensures.answers c.ask_pairs.ensures.marks
