-- Each return is one clause of the table.
use Prim.Native.Nat.{◌+◌}
use mathlib.Core.Path.{refl, sym, ◌∙◌}
use Rattle.net.proofs.Good.{good_statement}
use Rattle.satisfies.proofs.Outcomes.{table_long, test_many, test_bad, test_table, test_told}
use Rattle.satisfies.proofs.test_valuation.Goals as goal

pub returns-then-n-gt-NODE_LIMIT : goal.returns-then-n-gt-NODE_LIMIT
returns-then-n-gt-NODE_LIMIT c =
    test_many c.args.o c.args.k c.args.table.now c.args.x c.args.y c.args.sign c.if-n-gt-NODE_LIMIT.true

pub returns-then-is_bad_statement : goal.returns-then-is_bad_statement
returns-then-is_bad_statement c =
    test_bad c.args.o c.args.k c.args.table.now c.args.x c.args.y c.args.sign c.if-n-gt-NODE_LIMIT.false c.is_bad_statement.ensures c.if-is_bad_statement.true

pub returns-then-is_bad_table : goal.returns-then-is_bad_table
returns-then-is_bad_table c =
    test_table c.args.o c.args.k c.args.table.now c.args.x c.args.y c.args.sign c.if-n-gt-NODE_LIMIT.false c.is_bad_statement.ensures c.if-is_bad_statement.false
    c.is_bad_table.ensures c.if-is_bad_table.true

pub holds_in-requires : goal.holds_in-requires
holds_in-requires c =
    let t = ((good_statement c.args.o (c.args.o + c.args.k) c.args.x c.args.y c.args.sign).0 (sym c.is_bad_statement.ensures ∙ c.if-is_bad_statement.false)).pair in
    (refl, c.if-n-gt-NODE_LIMIT.false, t.node, t.low, t.high, table_long (c.args.o + c.args.k) c.args.k c.args.table.now c.is_bad_table.ensures c.if-is_bad_table.false)

pub returns : goal.returns
returns c =
    test_told c.args.o c.args.k c.args.table.now c.args.x c.args.y c.args.sign c.if-n-gt-NODE_LIMIT.false c.is_bad_statement.ensures c.if-is_bad_statement.false
    c.is_bad_table.ensures c.if-is_bad_table.false c.holds_in.ensures
