use native.Mathlib.Omega.{arith}
use Rattle.text_field.proofs.Writing.{wrote_more, wrote_as}
use Rattle.why_line.specs.Text.{is_word, isnt_word}
use Rattle.why_line.proofs.Fields.{named_fits, named_left, said_is, said_isnt}
use Rattle.why_line.proofs.put_said.Goals as goal

pub slice_bounds-put_bytes-count : goal.slice_bounds-put_bytes-count
slice_bounds-put_bytes-count c =
    omega (arith, named_left is_word c.args.y 32 c.put_named-at.ensures (omega arith))

pub put_bytes-requires : goal.put_bytes-requires
put_bytes-requires c =
    omega (arith, named_left is_word c.args.y 32 c.put_named-at.ensures (omega arith))

pub overflow_add-result : goal.overflow_add-result
overflow_add-result c =
    omega (arith, named_left is_word c.args.y 32 c.put_named-at.ensures (omega arith), c.put_bytes.ensures.size)

pub returns-then-sign-eq0 : goal.returns-then-sign-eq0
returns-then-sign-eq0 c =
    wrote_as (said_is c.args.sign c.args.y c.if-sign-eq0.true) (wrote_more c.put_named-at.ensures (named_fits is_word c.args.y 32 _ (omega arith)) c.put_bytes.ensures)

pub slice_bounds-put_bytes-count-2 : goal.slice_bounds-put_bytes-count-2
slice_bounds-put_bytes-count-2 c =
    omega (arith, named_left isnt_word c.args.y 32 c.put_named-at-2.ensures (omega arith))

pub put_bytes-requires-2 : goal.put_bytes-requires-2
put_bytes-requires-2 c =
    omega (arith, named_left isnt_word c.args.y 32 c.put_named-at-2.ensures (omega arith))

pub overflow_add-result-2 : goal.overflow_add-result-2
overflow_add-result-2 c =
    omega (arith, named_left isnt_word c.args.y 32 c.put_named-at-2.ensures (omega arith), c.put_bytes-2.ensures.size)

pub returns : goal.returns
returns c =
    wrote_as (said_isnt c.args.sign c.args.y c.if-sign-eq0.false) (wrote_more c.put_named-at-2.ensures (named_fits isnt_word c.args.y 32 _ (omega arith)) c.put_bytes-2.ensures)
