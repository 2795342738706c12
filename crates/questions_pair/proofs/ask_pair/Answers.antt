-- A bad pair leaves all as it is, and any other is answered from the scan that stands there after `hold`.
use mathlib.Core.Path.{refl, sym, ◌∙◌}
use native.Mathlib.Omega.{arith}
use Rattle.theory.specs.Origins.{chosen}
use Rattle.net.proofs.Good.{good_pair}
use Rattle.question.proofs.Outcomes.{ask_bad, ask_done}
use Rattle.questions_pair.proofs.Standing.{stands_from}
use Rattle.questions_pair.proofs.ask_pair.Goals as goal

pub returns-then-is_bad_pair : goal.returns-then-is_bad_pair
returns-then-is_bad_pair c =
    record {
      asked = ask_bad c.args.o c.args.n (chosen c.args.set c.args.words.now) c.args.x c.args.y c.args.marks.now (sym c.is_bad_pair.ensures ∙ c.if-is_bad_pair.true);
      known = c.requires.known;
      long = refl;
    }

pub hold-now_held-requires : goal.hold-now_held-requires
hold-now_held-requires c =
    let good = (good_pair c.args.o c.args.n c.args.x c.args.y).0 (sym c.is_bad_pair.ensures ∙ c.if-is_bad_pair.false) in
    record {
      net = c.requires.net;
      size = c.requires.size;
      node = good.node;
      room = c.requires.room;
      known = c.requires.known;
    }

pub bounds-marks-at : goal.bounds-marks-at
bounds-marks-at c =
    let good = (good_pair c.args.o c.args.n c.args.x c.args.y).0 (sym c.is_bad_pair.ensures ∙ c.if-is_bad_pair.false) in
    omega (arith, good.high, c.requires.room, c.hold-now_held.ensures.long)

pub returns : goal.returns
returns c =
    let words = chosen c.args.set c.args.words.now in
    let scan = stands_from c.args.n words c.hold-now_held.result c.hold-now_held.new.marks c.args.x c.hold-now_held.ensures.node c.hold-now_held.ensures.stands in record {
      asked = ask_done c.args.o c.args.n words c.args.x c.args.y c.args.marks.now (sym c.is_bad_pair.ensures ∙ c.if-is_bad_pair.false)
          c.requires.room c.hold-now_held.new.marks c.hold-now_held.result.count c.answer_at.result
          scan.0 scan.1 c.hold-now_held.ensures.past c.answer_at.ensures;
      known = (λ l. c.hold-now_held.ensures.stands);
      long = c.hold-now_held.ensures.long;
    }
