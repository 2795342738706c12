use native.Mathlib.Omega.{arith}
use Rattle.text_field.proofs.Writing.{wrote_more, wrote_as}
use Rattle.text_field.proofs.Decimals.{most_digits}
use Rattle.ask_answer.proofs.Ends.{number_room}
use Rattle.fleet_line.proofs.Lines.{refused_joins}
use borrow.Author.Rules.{rules}
use Rattle.fleet_line.proofs.put_refused.Goals as goal

pub put_bytes-at-requires : goal.put_bytes-at-requires
put_bytes-at-requires c = search rules

pub slice_bounds-put_number-count : goal.slice_bounds-put_number-count
slice_bounds-put_number-count c = search rules

pub put_number-at-requires : goal.put_number-at-requires
put_number-at-requires c =
    omega (arith, most_digits 10 c.args.number)

pub overflow_add-at : goal.overflow_add-at
overflow_add-at c =
    omega (arith, c.put_bytes-at.ensures.size, c.put_number-at.ensures.size, number_room c.args.number 10)

pub returns : goal.returns
returns c =
    wrote_as (refused_joins c.args.number) (wrote_more c.put_bytes-at.ensures (omega arith) c.put_number-at.ensures)
