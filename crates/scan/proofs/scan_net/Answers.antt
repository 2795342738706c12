-- Each return is one clause of the table, or the scan.
use lib.ListN.{drop}
use native.Mathlib.Omega.{arith}
use Rattle.theory.specs.Origins.{chosen}
use Rattle.theory.proofs.origins.Statements.{chosen_inside}
use Rattle.scan_start.proofs.Starts.{started_low}
use Rattle.scan.proofs.Outcomes.{scan_far, scan_short, scan_ran}
use Rattle.scan.proofs.scan_net.Goals as goal

pub returns-then-n-at : goal.returns-then-n-at
returns-then-n-at c = scan_far c.args.n (chosen c.args.set c.args.words.now) c.args.x c.args.budget c.args.marks.now (omega arith)

pub returns-then-marks-n : goal.returns-then-marks-n
returns-then-marks-n c = scan_short c.args.n (chosen c.args.set c.args.words.now) c.args.x c.args.budget c.args.marks.now (omega arith) (omega arith)

pub run_rounds-ran-requires : goal.run_rounds-ran-requires
run_rounds-ran-requires c = record {
  inside = c.requires.inside;
  few = c.requires.few;
  room = omega arith;
  low = rw c.put_start.ensures (started_low c.args.n c.args.x (omega arith) (drop c.args.n c.args.marks.now));
}

pub returns-then-ran : goal.returns-then-ran
returns-then-ran c =
    rw c.if-ran.true at
    (scan_ran c.args.n (chosen c.args.set c.args.words.now) c.args.x c.args.budget c.args.marks.now (omega arith)
    (chosen_inside c.args.set c.args.words.now c.requires.inside) (omega arith) c.put_start.ensures c.run_rounds-ran.ensures.marks_value)

pub returns-else-ran : goal.returns-else-ran
returns-else-ran c =
    rw c.if-ran.false at
    (scan_ran c.args.n (chosen c.args.set c.args.words.now) c.args.x c.args.budget c.args.marks.now (omega arith)
    (chosen_inside c.args.set c.args.words.now c.requires.inside) (omega arith) c.put_start.ensures c.run_rounds-ran.ensures.marks_value)
