use native.Mathlib.Omega.{arith}
use Rattle.net.proofs.Checks.{sizes_many, sizes_long, sizes_fine}
use Rattle.net.proofs.check_sizes.Goals as goal

pub returns-then-n-gt-NODE_LIMIT : goal.returns-then-n-gt-NODE_LIMIT
returns-then-n-gt-NODE_LIMIT c = sizes_many c.args.o c.args.k c.args.count (omega arith)

pub returns-then-count-gt-WORD_LIMIT : goal.returns-then-count-gt-WORD_LIMIT
returns-then-count-gt-WORD_LIMIT c = sizes_long c.args.o c.args.k c.args.count (omega arith) (omega arith)

pub returns : goal.returns
returns c = sizes_fine c.args.o c.args.k c.args.count (omega arith) (omega arith)
