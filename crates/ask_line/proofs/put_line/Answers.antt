use Prim.Native.Nat.{◌+◌, ◌≤◌}
use mathlib.Core.List.{[], ◌∷◌, ◌++◌}
use native.Mathlib.Omega.{arith}
use lib.ListN.{length}
use Rattle.text_field.specs.Writing.{Wrote}
use Rattle.text_field.proofs.Writing.{rejoined, room, wrote_more, wrote_as}
use Rattle.text_field.specs.Decimal.{decimal}
use Rattle.text_field.proofs.Decimals.{few_digits}
use Rattle.ask_line.proofs.Fields.{node_room, pair_room, line_joins, line_room_lem}
use Rattle.ask_answer.proofs.Ends.{answer_room}
use Rattle.ask_line.proofs.put_line.Goals as goal

pub put_number-at-requires : goal.put_number-at-requires
put_number-at-requires c =
    omega (arith, few_digits 10 4 c.args.x (omega arith))

pub slice_bounds-put_number-count : goal.slice_bounds-put_number-count
slice_bounds-put_number-count c =
    let one-fits-c : length (decimal c.args.x ++ 32 ∷ []) ≤ length c.args.text.now = omega (arith, node_room c.args.x 32 c.requires.0) in
    omega (arith, room c.put_number-at.ensures (one-fits-c))

pub put_number-at-requires-2 : goal.put_number-at-requires-2
put_number-at-requires-2 c =
    let one-fits-c : length (decimal c.args.x ++ 32 ∷ []) ≤ length c.args.text.now = omega (arith, node_room c.args.x 32 c.requires.0) in
    omega (arith, room c.put_number-at.ensures (one-fits-c), node_room c.args.x 32 c.requires.0, few_digits 10 4 c.args.y (omega arith))

pub overflow_add-at : goal.overflow_add-at
overflow_add-at c =
    let one-fits-c : length (decimal c.args.x ++ 32 ∷ []) ≤ length c.args.text.now = omega (arith, node_room c.args.x 32 c.requires.0) in
    let two-fit-c : length ((decimal c.args.x ++ 32 ∷ []) ++ (decimal c.args.y ++ 32 ∷ [])) ≤ length c.args.text.now = omega (arith, pair_room c.args.x c.args.y c.requires.0 c.requires.1.0) in
    let two-written-c : Wrote ((decimal c.args.x ++ 32 ∷ []) ++ (decimal c.args.y ++ 32 ∷ [])) c.args.text.now
    (rejoined c.put_number-at.result c.put_number-at.new.text c.put_number-at-2.new.text)
    (c.put_number-at.result + c.put_number-at-2.result) = wrote_more c.put_number-at.ensures (one-fits-c) c.put_number-at-2.ensures in
    omega (arith, two-fit-c, (two-written-c).size)

pub slice_bounds-put_answer-count : goal.slice_bounds-put_answer-count
slice_bounds-put_answer-count c =
    let one-fits-c : length (decimal c.args.x ++ 32 ∷ []) ≤ length c.args.text.now = omega (arith, node_room c.args.x 32 c.requires.0) in
    let two-fit-c : length ((decimal c.args.x ++ 32 ∷ []) ++ (decimal c.args.y ++ 32 ∷ [])) ≤ length c.args.text.now = omega (arith, pair_room c.args.x c.args.y c.requires.0 c.requires.1.0) in
    let two-written-c : Wrote ((decimal c.args.x ++ 32 ∷ []) ++ (decimal c.args.y ++ 32 ∷ [])) c.args.text.now
    (rejoined c.put_number-at.result c.put_number-at.new.text c.put_number-at-2.new.text)
    (c.put_number-at.result + c.put_number-at-2.result) = wrote_more c.put_number-at.ensures (one-fits-c) c.put_number-at-2.ensures in
    omega (arith, room (two-written-c) (two-fit-c))

pub put_answer-at-requires : goal.put_answer-at-requires
put_answer-at-requires c =
    let one-fits-c : length (decimal c.args.x ++ 32 ∷ []) ≤ length c.args.text.now = omega (arith, node_room c.args.x 32 c.requires.0) in
    let two-fit-c : length ((decimal c.args.x ++ 32 ∷ []) ++ (decimal c.args.y ++ 32 ∷ [])) ≤ length c.args.text.now = omega (arith, pair_room c.args.x c.args.y c.requires.0 c.requires.1.0) in
    let two-written-c : Wrote ((decimal c.args.x ++ 32 ∷ []) ++ (decimal c.args.y ++ 32 ∷ [])) c.args.text.now
    (rejoined c.put_number-at.result c.put_number-at.new.text c.put_number-at-2.new.text)
    (c.put_number-at.result + c.put_number-at-2.result) = wrote_more c.put_number-at.ensures (one-fits-c) c.put_number-at-2.ensures in
    omega (arith, room (two-written-c) (two-fit-c), pair_room c.args.x c.args.y c.requires.0 c.requires.1.0)

pub overflow_add-at-2 : goal.overflow_add-at-2
overflow_add-at-2 c =
    let one-fits-c : length (decimal c.args.x ++ 32 ∷ []) ≤ length c.args.text.now = omega (arith, node_room c.args.x 32 c.requires.0) in
    let two-fit-c : length ((decimal c.args.x ++ 32 ∷ []) ++ (decimal c.args.y ++ 32 ∷ [])) ≤ length c.args.text.now = omega (arith, pair_room c.args.x c.args.y c.requires.0 c.requires.1.0) in
    let two-written-c : Wrote ((decimal c.args.x ++ 32 ∷ []) ++ (decimal c.args.y ++ 32 ∷ [])) c.args.text.now
    (rejoined c.put_number-at.result c.put_number-at.new.text c.put_number-at-2.new.text)
    (c.put_number-at.result + c.put_number-at-2.result) = wrote_more c.put_number-at.ensures (one-fits-c) c.put_number-at-2.ensures in
    omega (arith, two-fit-c, (two-written-c).size, c.put_answer-at.ensures.size, answer_room c.args.asked)

pub returns : goal.returns
returns c =
    let one-fits-c : length (decimal c.args.x ++ 32 ∷ []) ≤ length c.args.text.now = omega (arith, node_room c.args.x 32 c.requires.0) in
    let two-fit-c : length ((decimal c.args.x ++ 32 ∷ []) ++ (decimal c.args.y ++ 32 ∷ [])) ≤ length c.args.text.now = omega (arith, pair_room c.args.x c.args.y c.requires.0 c.requires.1.0) in
    let two-written-c : Wrote ((decimal c.args.x ++ 32 ∷ []) ++ (decimal c.args.y ++ 32 ∷ [])) c.args.text.now
    (rejoined c.put_number-at.result c.put_number-at.new.text c.put_number-at-2.new.text)
    (c.put_number-at.result + c.put_number-at-2.result) = wrote_more c.put_number-at.ensures (one-fits-c) c.put_number-at-2.ensures in
    let line = wrote_as (line_joins c.args.x c.args.y c.args.asked) (wrote_more (two-written-c) (two-fit-c) c.put_answer-at.ensures) in
    (line, omega (arith, line.size, line_room_lem c.args.x c.args.y c.args.asked c.requires.0 c.requires.1.0))
