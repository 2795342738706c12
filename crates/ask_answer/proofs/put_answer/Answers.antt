use native.Mathlib.Omega.{arith}
use Rattle.text_field.proofs.Writing.{room, wrote_more, wrote_as}
use Rattle.text_field.proofs.Decimals.{most_digits}
use Rattle.ask_answer.proofs.Ends.{number_room, word_room, done_fields, refused_fields}
use Rattle.ask_answer.proofs.put_answer.Goals as goal

pub slice_bounds-put_number-count : goal.slice_bounds-put_number-count
slice_bounds-put_number-count c =
    let r = room c.put_word-at.ensures (omega (arith, word_room c.in-Ok.answer)) in
    omega arith

pub put_number-requires : goal.put_number-requires
put_number-requires c =
    let r = room c.put_word-at.ensures (omega (arith, word_room c.in-Ok.answer)) in
    omega (arith, word_room c.in-Ok.answer, most_digits 10 c.in-Ok.count)

pub overflow_add-result : goal.overflow_add-result
overflow_add-result c =
    let r = room c.put_word-at.ensures (omega (arith, word_room c.in-Ok.answer)) in
    omega (arith, c.put_number.ensures.size, number_room c.in-Ok.count 10)

pub put_number-requires-in-Err : goal.put_number-requires-in-Err
put_number-requires-in-Err c =
    let r = room c.put_bytes-at.ensures (omega arith) in
    omega (arith, most_digits 10 c.refusal_given.result.number)

pub overflow_add-result-in-Err : goal.overflow_add-result-in-Err
overflow_add-result-in-Err c =
    let r = room c.put_bytes-at.ensures (omega arith) in
    omega (arith, c.put_number-in-Err.ensures.size, number_room c.refusal_given.result.number 10)

pub returns-in-Ok : goal.returns-in-Ok
returns-in-Ok c =
    wrote_as (done_fields c.in-Ok.is) (wrote_more c.put_word-at.ensures (omega (arith, word_room c.in-Ok.answer)) c.put_number.ensures)

pub returns-in-Err : goal.returns-in-Err
returns-in-Err c =
    wrote_as (refused_fields c.in-Err.is c.refusal_given.ensures) (wrote_more c.put_bytes-at.ensures (omega arith) c.put_number-in-Err.ensures)
