-- Each return is one clause of the table.
use native.Mathlib.Omega.{arith}
use Rattle.theory.specs.Origins.{chosen}
use Rattle.theory.proofs.valuation.Tables.{table_small}
use Rattle.valuation.specs.Values.{own_values}
use Rattle.valuation.proofs.Outcomes.{fill_unmarked, fill_short, fill_done}
use Rattle.valuation.proofs.fill_checked.Goals as goal

pub returns-then-marks-n : goal.returns-then-marks-n
returns-then-marks-n c =
    fill_unmarked c.args.k (own_values c.args.o c.args.k (chosen c.args.set c.args.words.now)) c.args.table.now c.args.marks.now c.args.n c.if-marks-n.true

pub overflow_mul-places : goal.overflow_mul-places
overflow_mul-places c =
    omega (arith, table_small c.args.n c.args.k (omega (arith, c.requires.net.few, c.requires.size)) (omega (arith, c.requires.net.few)))

pub returns-then-table-places : goal.returns-then-table-places
returns-then-table-places c =
    fill_short c.args.k (own_values c.args.o c.args.k (chosen c.args.set c.args.words.now)) c.args.table.now c.args.marks.now c.args.n c.if-marks-n.false c.if-table-places.true

pub returns : goal.returns
returns c =
    fill_done c.args.k (own_values c.args.o c.args.k (chosen c.args.set c.args.words.now)) c.args.table.now c.args.marks.now c.args.n c.if-marks-n.false c.if-table-places.false
    c.put_rows.new.table c.put_rows.new.marks c.clear.new.marks
    c.put_rows.ensures.written c.put_rows.ensures.past c.clear.ensures
