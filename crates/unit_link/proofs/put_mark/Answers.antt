use Rattle.unit_link.proofs.Spreading.{put_had, put_new}
use Rattle.unit_link.proofs.put_mark.Goals as goal

pub returns-then-has_bit : goal.returns-then-has_bit
returns-then-has_bit c =
    let t = put_had c.args.put c.args.v c.args.marks.now c.has_bit.ensures c.if-has_bit.true in
    record { done = t.0; new = t.1 }

pub returns : goal.returns
returns c =
    let t = put_new c.args.put c.args.v c.args.marks.now c.has_bit.ensures c.bit_of.ensures c.if-has_bit.false c.requires.1 in
    record { done = t.0; new = t.1 }
