use native.Mathlib.Omega.{arith}
use Rattle.text_field.proofs.Writing.{wrote_more, wrote_as}
use Rattle.why_line.specs.Text.{link_word, origin_word}
use Rattle.why_line.proofs.Fields.{named_room, named_fits, named_left, link_plain, link_told}
use Rattle.why_line.proofs.put_link.Goals as goal

pub returns-then-not-told : goal.returns-then-not-told
returns-then-not-told c =
    wrote_as (link_plain c.args.told c.args.origin c.args.index c.if-not-told.true-raw) c.put_named.ensures

pub slice_bounds-put_named-count : goal.slice_bounds-put_named-count
slice_bounds-put_named-count c =
    omega (arith, named_left link_word c.args.index 32 c.put_named-at.ensures (omega arith))

pub put_named-requires-2 : goal.put_named-requires-2
put_named-requires-2 c =
    omega (arith, named_left link_word c.args.index 32 c.put_named-at.ensures (omega arith))

pub overflow_add-result : goal.overflow_add-result
overflow_add-result c =
    omega (arith, named_left link_word c.args.index 32 c.put_named-at.ensures (omega arith), c.put_named-2.ensures.size, named_room origin_word c.args.origin 10)

pub returns : goal.returns
returns c =
    wrote_as (link_told c.args.told c.args.origin c.args.index c.if-not-told.false-raw) (wrote_more c.put_named-at.ensures (named_fits link_word c.args.index 32 _ (omega arith)) c.put_named-2.ensures)
