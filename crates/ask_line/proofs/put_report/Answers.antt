use Prim.Native.Nat.{◌+◌, ◌≤◌}
use mathlib.Core.List.{[], ◌∷◌, ◌++◌}
use native.Mathlib.Omega.{arith}
use lib.ListN.{length}
use Rattle.text_field.specs.Writing.{Wrote}
use Rattle.text_field.proofs.Writing.{rejoined, room, wrote_more, wrote_as}
use Rattle.text_field.specs.Decimal.{decimal}
use Rattle.text_field.proofs.Decimals.{most_digits}
use Rattle.ask_answer.proofs.Ends.{word_space, number_room}
use Rattle.ask_line.proofs.Fields.{report_room, report_joins}
use Rattle.ask_line.proofs.put_report.Goals as goal

pub slice_bounds-put_number-count : goal.slice_bounds-put_number-count
slice_bounds-put_number-count c =
    let one-fits-c : length (c.args.word.now ++ 32 ∷ []) ≤ length c.args.text.now = omega (arith, word_space c.args.word.now) in
    omega (arith, room c.put_bytes-at.ensures (one-fits-c))

pub put_number-at-requires : goal.put_number-at-requires
put_number-at-requires c =
    let one-fits-c : length (c.args.word.now ++ 32 ∷ []) ≤ length c.args.text.now = omega (arith, word_space c.args.word.now) in
    omega (arith, room c.put_bytes-at.ensures (one-fits-c), word_space c.args.word.now, most_digits 10 c.args.number)

pub overflow_add-at : goal.overflow_add-at
overflow_add-at c =
    let one-fits-c : length (c.args.word.now ++ 32 ∷ []) ≤ length c.args.text.now = omega (arith, word_space c.args.word.now) in
    let two-fit-c : length ((c.args.word.now ++ 32 ∷ []) ++ (decimal c.args.number ++ 32 ∷ [])) ≤ length c.args.text.now = omega (arith, report_room c.args.word.now c.args.number) in
    let two-written-c : Wrote ((c.args.word.now ++ 32 ∷ []) ++ (decimal c.args.number ++ 32 ∷ [])) c.args.text.now
    (rejoined c.put_bytes-at.result c.put_bytes-at.new.text c.put_number-at.new.text)
    (c.put_bytes-at.result + c.put_number-at.result) = wrote_more c.put_bytes-at.ensures (one-fits-c) c.put_number-at.ensures in
    omega (arith, two-fit-c, (two-written-c).size)

pub slice_bounds-put_number-count-2 : goal.slice_bounds-put_number-count-2
slice_bounds-put_number-count-2 c =
    let one-fits-c : length (c.args.word.now ++ 32 ∷ []) ≤ length c.args.text.now = omega (arith, word_space c.args.word.now) in
    let two-fit-c : length ((c.args.word.now ++ 32 ∷ []) ++ (decimal c.args.number ++ 32 ∷ [])) ≤ length c.args.text.now = omega (arith, report_room c.args.word.now c.args.number) in
    let two-written-c : Wrote ((c.args.word.now ++ 32 ∷ []) ++ (decimal c.args.number ++ 32 ∷ [])) c.args.text.now
    (rejoined c.put_bytes-at.result c.put_bytes-at.new.text c.put_number-at.new.text)
    (c.put_bytes-at.result + c.put_number-at.result) = wrote_more c.put_bytes-at.ensures (one-fits-c) c.put_number-at.ensures in
    omega (arith, room (two-written-c) (two-fit-c))

pub put_number-at-requires-2 : goal.put_number-at-requires-2
put_number-at-requires-2 c =
    let one-fits-c : length (c.args.word.now ++ 32 ∷ []) ≤ length c.args.text.now = omega (arith, word_space c.args.word.now) in
    let two-fit-c : length ((c.args.word.now ++ 32 ∷ []) ++ (decimal c.args.number ++ 32 ∷ [])) ≤ length c.args.text.now = omega (arith, report_room c.args.word.now c.args.number) in
    let two-written-c : Wrote ((c.args.word.now ++ 32 ∷ []) ++ (decimal c.args.number ++ 32 ∷ [])) c.args.text.now
    (rejoined c.put_bytes-at.result c.put_bytes-at.new.text c.put_number-at.new.text)
    (c.put_bytes-at.result + c.put_number-at.result) = wrote_more c.put_bytes-at.ensures (one-fits-c) c.put_number-at.ensures in
    omega (arith, room (two-written-c) (two-fit-c), report_room c.args.word.now c.args.number, most_digits 10 c.args.value)

pub overflow_add-at-2 : goal.overflow_add-at-2
overflow_add-at-2 c =
    let one-fits-c : length (c.args.word.now ++ 32 ∷ []) ≤ length c.args.text.now = omega (arith, word_space c.args.word.now) in
    let two-fit-c : length ((c.args.word.now ++ 32 ∷ []) ++ (decimal c.args.number ++ 32 ∷ [])) ≤ length c.args.text.now = omega (arith, report_room c.args.word.now c.args.number) in
    let two-written-c : Wrote ((c.args.word.now ++ 32 ∷ []) ++ (decimal c.args.number ++ 32 ∷ [])) c.args.text.now
    (rejoined c.put_bytes-at.result c.put_bytes-at.new.text c.put_number-at.new.text)
    (c.put_bytes-at.result + c.put_number-at.result) = wrote_more c.put_bytes-at.ensures (one-fits-c) c.put_number-at.ensures in
    omega (arith, two-fit-c, (two-written-c).size, c.put_number-at-2.ensures.size, number_room c.args.value c.args.after)

pub returns : goal.returns
returns c =
    let one-fits-c : length (c.args.word.now ++ 32 ∷ []) ≤ length c.args.text.now = omega (arith, word_space c.args.word.now) in
    let two-fit-c : length ((c.args.word.now ++ 32 ∷ []) ++ (decimal c.args.number ++ 32 ∷ [])) ≤ length c.args.text.now = omega (arith, report_room c.args.word.now c.args.number) in
    let two-written-c : Wrote ((c.args.word.now ++ 32 ∷ []) ++ (decimal c.args.number ++ 32 ∷ [])) c.args.text.now
    (rejoined c.put_bytes-at.result c.put_bytes-at.new.text c.put_number-at.new.text)
    (c.put_bytes-at.result + c.put_number-at.result) = wrote_more c.put_bytes-at.ensures (one-fits-c) c.put_number-at.ensures in
    wrote_as (report_joins c.args.word.now c.args.number c.args.value c.args.after) (wrote_more (two-written-c) (two-fit-c) c.put_number-at-2.ensures)
