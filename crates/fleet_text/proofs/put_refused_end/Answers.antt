use native.Mathlib.Omega.{arith}
use Rattle.text_field.proofs.Writing.{room, wrote_more}
use Rattle.fleet_line.proofs.Lines.{refused_short, total_short}
use Rattle.fleet_text.proofs.put_refused_end.Goals as goal

pub slice_bounds-put_total-count : goal.slice_bounds-put_total-count
slice_bounds-put_total-count c =
    let r = room c.put_refused-at.ensures (omega (arith, refused_short 14)) in
    omega arith

pub put_total-at-requires : goal.put_total-at-requires
put_total-at-requires c =
    let r = room c.put_refused-at.ensures (omega (arith, refused_short 14)) in
    omega (arith, refused_short 14)

pub overflow_add-at : goal.overflow_add-at
overflow_add-at c =
    omega (arith, c.put_refused-at.ensures.size, c.put_total-at.ensures.size, refused_short 14, total_short c.args.sums.now)

pub returns : goal.returns
returns c =
    wrote_more c.put_refused-at.ensures (omega (arith, refused_short 14)) c.put_total-at.ensures
