-- Each return is one way.
use Rattle.explain_line.proofs.Stored.{step_up, step_under, step_down}
use Rattle.explain_line.proofs.put_step.Goals as goal

pub returns-then-way-eq-UP : goal.returns-then-way-eq-UP
returns-then-way-eq-UP c =
    step_up c.args.set c.args.words.now c.args.list.now c.args.n c.args.x c.args.u c.args.v c.if-way-eq-UP.true c.put_link.ensures c.put_line.ensures

pub returns-then-way-eq-UNDER : goal.returns-then-way-eq-UNDER
returns-then-way-eq-UNDER c =
    step_under c.args.set c.args.words.now c.args.list.now c.args.n c.args.x c.args.u c.args.v c.if-way-eq-UNDER.true c.put_link-else-way-eq-UP.ensures c.put_line-then-way-eq-UNDER.ensures

pub returns-else-way-eq-UNDER : goal.returns-else-way-eq-UNDER
returns-else-way-eq-UNDER c =
    step_down c.args.set c.args.words.now c.args.list.now c.args.n c.args.x c.args.u c.args.v c.if-way-eq-UP.false c.if-way-eq-UNDER.false c.put_link-else-way-eq-UP.ensures c.put_line-else-way-eq-UNDER.ensures
