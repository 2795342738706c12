-- Each return is one clause of the table.
use mathlib.Core.Path.{sym, ◌∙◌}
use native.Mathlib.Omega.{arith}
use Rattle.theory.specs.Origins.{chosen}
use Rattle.net.proofs.Good.{good_pair}
use Rattle.question.proofs.Outcomes.{ask_bad, ask_short, ask_done}
use Rattle.question.proofs.question_net.Goals as goal

pub returns-then-is_bad_pair : goal.returns-then-is_bad_pair
returns-then-is_bad_pair c =
    ask_bad c.args.o c.args.n (chosen c.args.set c.args.words.now) c.args.x c.args.y c.args.marks.now (sym c.is_bad_pair.ensures ∙ c.if-is_bad_pair.true)

pub returns-then-marks-n : goal.returns-then-marks-n
returns-then-marks-n c =
    ask_short c.args.o c.args.n (chosen c.args.set c.args.words.now) c.args.x c.args.y c.args.marks.now (sym c.is_bad_pair.ensures ∙ c.if-is_bad_pair.false)
    (omega arith)

pub full_scan-count-requires : goal.full_scan-count-requires
full_scan-count-requires c =
    let good = (good_pair c.args.o c.args.n c.args.x c.args.y).0 (sym c.is_bad_pair.ensures ∙ c.if-is_bad_pair.false) in
    record { net = c.requires.net; size = c.requires.size; node = good.node; room = omega arith }

pub bounds-marks-at : goal.bounds-marks-at
bounds-marks-at c =
    let good = (good_pair c.args.o c.args.n c.args.x c.args.y).0 (sym c.is_bad_pair.ensures ∙ c.if-is_bad_pair.false) in
    omega (arith, good.high, c.full_scan-count.ensures.long)

pub returns : goal.returns
returns c =
    ask_done c.args.o c.args.n (chosen c.args.set c.args.words.now) c.args.x c.args.y c.args.marks.now (sym c.is_bad_pair.ensures ∙ c.if-is_bad_pair.false)
    (omega arith) c.full_scan-count.new.marks c.full_scan-count.result c.answer_at.result c.full_scan-count.ensures.count c.full_scan-count.ensures.nodes
    c.full_scan-count.ensures.past c.answer_at.ensures
