-- The table is too short, or a byte is no value.
use native.Mathlib.Omega.{arith}
use Rattle.theory.proofs.valuation.Tables.{table_small}
use Rattle.satisfies.proofs.Outcomes.{table_short, table_read}
use Rattle.satisfies.proofs.is_bad_table.Goals as goal

pub overflow_mul-size : goal.overflow_mul-size
overflow_mul-size c = omega (arith, table_small c.args.n c.args.k c.requires.0 (omega (arith, c.requires.0, c.requires.1)))

pub returns-then-table-size : goal.returns-then-table-size
returns-then-table-size c = table_short c.args.n c.args.k c.args.table.now c.if-table-size.true

pub returns : goal.returns
returns c = table_read c.args.n c.args.k c.args.table.now c.if-table-size.false c.are_low.ensures
