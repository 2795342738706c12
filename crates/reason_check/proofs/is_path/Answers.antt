-- Each return is one test of the shape that fails; past them all the steps decide.
use mathlib.Core.Path.{sym, ap}
use mathlib.Core.Bool.{not}
use Rattle.theory.specs.Words.{sign_at}
use Rattle.theory.specs.Origins.{chosen}
use Rattle.reason_check.proofs.Shape.{short_fails, first_part_fails, length_fails, sign_fails, start_fails, end_fails, steps_decide}
use Rattle.reason_check.proofs.is_path.Goals as goal

pub returns-then-list-lt3 : goal.returns-then-list-lt3
returns-then-list-lt3 c =
    sym (short_fails c.args.o c.args.k (chosen c.args.set c.args.words.now) c.args.x c.args.y (sign_at c.args.sign) c.args.list.now c.if-list-lt3.true)

pub returns-then-first-eq0 : goal.returns-then-first-eq0
returns-then-first-eq0 c =
    first_part_fails c.args.o c.args.k (chosen c.args.set c.args.words.now) c.args.x c.args.y (sign_at c.args.sign) c.args.list.now c.if-list-lt3.false c.if-first-eq0.true

pub returns-then-first-second : goal.returns-then-first-second
returns-then-first-second c =
    length_fails c.args.o c.args.k (chosen c.args.set c.args.words.now) c.args.x c.args.y (sign_at c.args.sign) c.args.list.now c.if-list-lt3.false c.if-first-eq0.false c.if-first-second.true

pub returns-then-not-goes_with : goal.returns-then-not-goes_with
returns-then-not-goes_with c =
    sign_fails c.args.o c.args.k (chosen c.args.set c.args.words.now) c.args.x c.args.y (sign_at c.args.sign) c.args.list.now c.if-list-lt3.false c.if-first-eq0.false c.if-first-second.false
    c.goes_with.ensures (ap not c.if-not-goes_with.true)

pub returns-then-list-x : goal.returns-then-list-x
returns-then-list-x c =
    start_fails c.args.o c.args.k (chosen c.args.set c.args.words.now) c.args.x c.args.y (sign_at c.args.sign) c.args.list.now c.if-list-lt3.false c.if-first-eq0.false c.if-first-second.false
    c.goes_with.ensures (ap not c.if-not-goes_with.false) c.if-list-x.true

pub returns-then-list-y : goal.returns-then-list-y
returns-then-list-y c =
    end_fails c.args.o c.args.k (chosen c.args.set c.args.words.now) c.args.x c.args.y (sign_at c.args.sign) c.args.list.now c.if-list-lt3.false c.if-first-eq0.false c.if-first-second.false
    c.goes_with.ensures (ap not c.if-not-goes_with.false) c.if-list-x.false c.if-list-y.true

pub returns : goal.returns
returns c =
    steps_decide c.args.o c.args.k (chosen c.args.set c.args.words.now) c.args.x c.args.y (sign_at c.args.sign) c.args.list.now c.if-list-lt3.false c.if-first-eq0.false c.if-first-second.false
    c.goes_with.ensures (ap not c.if-not-goes_with.false) c.if-list-x.false c.if-list-y.false c.steps_hold.ensures
