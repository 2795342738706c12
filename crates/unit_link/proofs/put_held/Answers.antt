use Rattle.unit_link.proofs.Spreading.{held_not, held_put}
use Rattle.unit_link.proofs.put_held.Goals as goal

pub returns-then-not-has_bit : goal.returns-then-not-has_bit
returns-then-not-has_bit c =
    let t = (held_not c.args.put c.args.v c.args.aside.now c.args.marks.now c.has_bit.ensures c.if-not-has_bit.true) in
    record {
      done = t.0;
      new = t.1;
    }

pub returns : goal.returns
returns c =
    record {
      done = held_put c.args.put c.args.v c.args.aside.now c.args.marks.now c.has_bit.ensures c.if-not-has_bit.false c.put_mark.ensures.done;
      new = c.put_mark.ensures.new;
    }
