use native.Mathlib.Omega.{arith}
use Rattle.text_field.proofs.Writing.{wrote_more, wrote_as}
use Rattle.fleet_line.proofs.Lines.{numbers_short, total_joins}
use borrow.Author.Rules.{rules}
use Rattle.fleet_line.proofs.put_total.Goals as goal

pub put_bytes-at-requires : goal.put_bytes-at-requires
put_bytes-at-requires c = search rules

pub slice_bounds-put_numbers-count : goal.slice_bounds-put_numbers-count
slice_bounds-put_numbers-count c = search rules

pub put_numbers-at-requires : goal.put_numbers-at-requires
put_numbers-at-requires c = search rules

pub overflow_add-at : goal.overflow_add-at
overflow_add-at c =
    omega (arith, c.put_bytes-at.ensures.size, c.put_numbers-at.ensures.size, numbers_short c.args.sums.now)

pub returns : goal.returns
returns c =
    wrote_as (total_joins c.args.sums.now) (wrote_more c.put_bytes-at.ensures (omega arith) c.put_numbers-at.ensures)
