use Prim.Native.Nat.{◌-◌}
use mathlib.Core.Path.{◌≡◌, refl, ap, ◌∙◌}
use native.Mathlib.Omega.{arith}
use lib.ListN.{length}
use Rattle.theory.specs.Origins.{chosen}
use Rattle.theory.specs.Completion.{full_marks, row}
use Rattle.completion_cell.proofs.Rows.{row_short}
use Rattle.completion_list.proofs.Listing.{read_row, rows_all, rows_go, rows_end}
use Rattle.completion_list.proofs.count_rows.Goals as goal

-- What was counted is the row of x.
counted : (c : goal.After-count_row-more) → c.count_row-more.result ≡ length (row 0 (full_marks c.args.o c.args.k (chosen c.args.set c.args.words.now) c.loop-x.x) c.args.o c.args.k)
counted c =
    c.count_row-more.ensures
    ∙ ap length (read_row c.args.o c.args.k c.args.n (chosen c.args.set c.args.words.now) c.loop-x.x c.full_scan.new.marks c.requires.size c.full_scan.ensures.nodes 0)

pub loop-x-init : goal.loop-x-init
loop-x-init c =
    (refl, omega arith, omega (arith, ap length (rows_all c.args.o c.args.k (chosen c.args.set c.args.words.now) (c.args.n - 0) (omega (arith, c.requires.size)))))

pub overflow_add-size : goal.overflow_add-size
overflow_add-size c = omega (arith, counted c, row_short 0 (full_marks c.args.o c.args.k (chosen c.args.set c.args.words.now) c.loop-x.x) c.args.o c.args.k, c.requires.net.few, c.requires.size, c.loop-x.invariant.1, c.loop-x-test.true)

pub loop-x-preserved : goal.loop-x-preserved
loop-x-preserved c = (
  c.full_scan.ensures.past ∙ c.loop-x.invariant.0,
  omega (arith, c.loop-x.invariant.1, counted c, row_short 0 (full_marks c.args.o c.args.k (chosen c.args.set c.args.words.now) c.loop-x.x) c.args.o c.args.k, c.requires.net.few, c.requires.size),
  omega (arith, c.loop-x.invariant.2, counted c, rows_go c.args.o c.args.k (chosen c.args.set c.args.words.now) c.loop-x.x c.args.n c.loop-x-test.true),
)

pub returns-clause-counted : goal.returns-clause-counted
returns-clause-counted c =
    omega (arith, c.loop-x.invariant.2, rows_end c.args.o c.args.k (chosen c.args.set c.args.words.now) c.loop-x.x c.args.n c.loop-x-test.false)
