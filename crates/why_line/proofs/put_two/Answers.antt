use native.Mathlib.Omega.{arith}
use Rattle.text_field.proofs.Writing.{wrote_more}
use Rattle.text_field.proofs.Decimals.{most_digits}
use Rattle.why_line.proofs.Fields.{named_fits, named_left, number_room}
use Rattle.why_line.proofs.put_two.Goals as goal

pub slice_bounds-put_number-count : goal.slice_bounds-put_number-count
slice_bounds-put_number-count c =
    omega (arith, named_left c.args.rule.now c.args.i 32 c.put_named-at.ensures (omega arith))

pub put_number-requires : goal.put_number-requires
put_number-requires c =
    omega (arith, named_left c.args.rule.now c.args.i 32 c.put_named-at.ensures (omega arith), most_digits 10 c.args.j)

pub overflow_add-result : goal.overflow_add-result
overflow_add-result c =
    omega (arith, named_left c.args.rule.now c.args.i 32 c.put_named-at.ensures (omega arith), c.put_number.ensures.size, number_room c.args.j 10)

pub returns : goal.returns
returns c =
    wrote_more c.put_named-at.ensures (named_fits c.args.rule.now c.args.i 32 _ (omega arith)) c.put_number.ensures
