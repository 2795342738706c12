use native.Mathlib.Omega.{arith}
use lib.ListN.{drop, length-set}
use Rattle.mend_trial.proofs.Settling.{put_is, put_isnt}
use Rattle.mend_trial.proofs.put_link.Goals as goal

pub bounds-marks-head : goal.bounds-marks-head
bounds-marks-head c =
    simp length-set (omega (arith, c.requires.0.head_in, c.head_of-head.ensures, c.clear.auto.marks))

pub bounds-marks-head-then-word-eq0 : goal.bounds-marks-head-then-word-eq0
bounds-marks-head-then-word-eq0 c =
    simp length-set (omega (arith, c.requires.0.head_in, c.head_of-head.ensures, c.clear.auto.marks))

pub bounds-marks-head-else-word-eq0 : goal.bounds-marks-head-else-word-eq0
bounds-marks-head-else-word-eq0 c =
    simp length-set (omega (arith, c.requires.0.head_in, c.head_of-head.ensures, c.clear.auto.marks))

pub returns-then-word-eq0 : goal.returns-then-word-eq0
returns-then-word-eq0 c =
    rw (c.tail_of-tail.ensures, c.head_of-head.ensures, c.clear.ensures)
    (put_is c.args.n c.args.word (drop c.args.n c.args.marks.now) c.requires.0 c.if-word-eq0.true)

pub returns-else-word-eq0 : goal.returns-else-word-eq0
returns-else-word-eq0 c =
    rw (c.tail_of-tail.ensures, c.head_of-head.ensures, c.clear.ensures)
    (put_isnt c.args.n c.args.word (drop c.args.n c.args.marks.now) c.requires.0 (omega (arith, c.if-word-eq0.false)))
