use native.Mathlib.Omega.{arith}
use Rattle.netfile_entry.proofs.Opening.{entries_bounded}
use Rattle.netfile.proofs.Reading.{below_least, below_contents, by_limit}
use Rattle.netfile.proofs.wrong_size.Goals as goal

pub returns-then-file-lt-LEAST_SIZE : goal.returns-then-file-lt-LEAST_SIZE
returns-then-file-lt-LEAST_SIZE c = below_least c.args.file.now c.if-file-lt-LEAST_SIZE.true

pub overflow_mul-entry_count : goal.overflow_mul-entry_count
overflow_mul-entry_count c = omega (arith, c.entry_count.ensures, (entries_bounded c.args.file.now).1)

pub returns-then-file-entry_count : goal.returns-then-file-entry_count
returns-then-file-entry_count c = below_contents c.args.file.now _ c.entry_count.ensures (omega (arith, c.if-file-entry_count.true))

pub returns : goal.returns
returns c = by_limit c.args.file.now _ c.entry_count.ensures (omega (arith, c.if-file-entry_count.false))
