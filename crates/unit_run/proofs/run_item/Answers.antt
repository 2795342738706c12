use native.Mathlib.Omega.{arith}
use Rattle.theory.specs.Origins.{chosen}
use Rattle.unit_program.specs.Runs.{stand}
use Rattle.unit_run.proofs.Items.{item_spent, item_plain, item_loop, loop_short}
use Rattle.unit_run.proofs.run_item.Goals as goal

-- The loop's end stands in the program.
pub slice_bounds-run_loop-end : goal.slice_bounds-run_loop-end
slice_bounds-run_loop-end c =
    let short = loop_short c.args.n (chosen c.args.set c.args.words.now) c.args.budget c.args.marks.now c.args.program.now c.requires.sound c.requires.some c.if-program-eq-LOOP.true c.before_end-size.ensures in
    omega arith

pub overflow_add-end : goal.overflow_add-end
overflow_add-end c =
    let short = loop_short c.args.n (chosen c.args.set c.args.words.now) c.args.budget c.args.marks.now c.args.program.now c.requires.sound c.requires.some c.if-program-eq-LOOP.true c.before_end-size.ensures in
    omega arith

pub returns-then-program-eq-LOOP : goal.returns-then-program-eq-LOOP
returns-then-program-eq-LOOP c =
    let t = (item_loop c.args.n (chosen c.args.set c.args.words.now) c.args.budget c.args.marks.now c.args.program.now c.requires.sound c.requires.some c.if-program-eq-LOOP.true c.before_end-size.ensures
    (stand c.run_loop-stood.result.runs c.run_loop-stood.result.left c.run_loop-stood.result.fresh c.run_loop-stood.new.marks) c.run_loop-stood.ensures) in
    record {
      item = t.0;
      rest = t.1;
    }

pub returns-then-budget-eq0 : goal.returns-then-budget-eq0
returns-then-budget-eq0 c =
    let t = (item_spent c.args.n (chosen c.args.set c.args.words.now) c.args.budget c.args.marks.now c.args.program.now c.requires.sound c.requires.some c.if-program-eq-LOOP.false c.if-budget-eq0.true) in
    record {
      item = t.0;
      rest = t.1;
    }

pub returns : goal.returns
returns c =
    let t = (item_plain c.args.n (chosen c.args.set c.args.words.now) c.args.budget c.args.marks.now c.args.program.now c.requires.sound c.requires.some c.if-program-eq-LOOP.false c.if-budget-eq0.false
    c.obey-fresh.ensures.done c.obey-fresh.ensures.new) in
    record {
      item = t.0;
      rest = t.1;
    }
