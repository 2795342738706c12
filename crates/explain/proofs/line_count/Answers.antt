-- Each return is one clause of the size.
use Prim.Native.Nat.{◌-◌}
use lib.ListN.{length, get_or}
use Rattle.explain_path.proofs.Written.{cross_few}
use native.Mathlib.Omega.{arith}
use Rattle.explain.proofs.Ways.{count_itself, count_rise, count_straight, count_turned}
use Rattle.explain.proofs.line_count.Goals as goal

pub returns-then-links-eq0 : goal.returns-then-links-eq0
returns-then-links-eq0 c =
    count_itself c.args.o c.args.set c.args.words.now c.args.part.now c.args.second.now c.if-second-eq0.true c.if-links-eq0.true

pub returns-then-second-eq0 : goal.returns-then-second-eq0
returns-then-second-eq0 c =
    count_rise c.args.o c.args.set c.args.words.now c.args.part.now c.args.second.now c.if-second-eq0.true c.if-links-eq0.false

pub overflow_add-result : goal.overflow_add-result
overflow_add-result c =
    omega (arith, cross_few c.args.set c.args.words.now (get_or c.args.part.now (length c.args.part.now - 1) 0) (get_or c.args.second.now 0 0), c.cross_size.ensures, c.requires.first, c.requires.second)

pub returns-then-is_straight : goal.returns-then-is_straight
returns-then-is_straight c =
    count_straight c.args.o c.args.set c.args.words.now c.args.part.now c.args.second.now c.requires.first.0 c.if-second-eq0.false c.is_straight.ensures c.if-is_straight.true c.cross_size.ensures

pub overflow_add-result-2 : goal.overflow_add-result-2
overflow_add-result-2 c =
    omega (arith, cross_few c.args.set c.args.words.now (get_or c.args.second.now 0 0) (get_or c.args.part.now (length c.args.part.now - 1) 0), c.cross_size-2.ensures, c.requires.first, c.requires.second)

pub overflow_add-result-3 : goal.overflow_add-result-3
overflow_add-result-3 c =
    omega (arith, cross_few c.args.set c.args.words.now (get_or c.args.second.now 0 0) (get_or c.args.part.now (length c.args.part.now - 1) 0), c.cross_size-2.ensures, c.requires.first, c.requires.second)

pub returns : goal.returns
returns c =
    count_turned c.args.o c.args.set c.args.words.now c.args.part.now c.args.second.now c.requires.first.0 c.if-second-eq0.false c.is_straight.ensures c.if-is_straight.false c.cross_size-2.ensures
