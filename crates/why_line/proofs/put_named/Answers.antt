use Prim.Native.Nat.{◌≤◌}
use mathlib.Core.List.{[], ◌∷◌, ◌++◌}
use native.Mathlib.Omega.{arith}
use lib.ListN.{length}
use Rattle.text_field.proofs.Writing.{room, wrote_more}
use Rattle.text_field.proofs.Decimals.{most_digits}
use Rattle.why_line.proofs.Fields.{word_space, number_room}
use Rattle.why_line.proofs.put_named.Goals as goal

pub slice_bounds-put_number-count : goal.slice_bounds-put_number-count
slice_bounds-put_number-count c =
    let fits-c : length (c.args.word.now ++ 32 ∷ []) ≤ length c.args.text.now = omega (arith, word_space c.args.word.now) in
    omega (arith, room c.put_bytes-at.ensures (fits-c))

pub put_number-requires : goal.put_number-requires
put_number-requires c =
    let fits-c : length (c.args.word.now ++ 32 ∷ []) ≤ length c.args.text.now = omega (arith, word_space c.args.word.now) in
    omega (arith, room c.put_bytes-at.ensures (fits-c), word_space c.args.word.now, most_digits 10 c.args.number)

pub overflow_add-result : goal.overflow_add-result
overflow_add-result c =
    omega (arith, c.put_bytes-at.ensures.size, word_space c.args.word.now, c.put_number.ensures.size, number_room c.args.number c.args.after)

pub returns : goal.returns
returns c =
    let fits-c : length (c.args.word.now ++ 32 ∷ []) ≤ length c.args.text.now = omega (arith, word_space c.args.word.now) in
    wrote_more c.put_bytes-at.ensures (fits-c) c.put_number.ensures
