use Prim.Native.Nat.{◌≤◌}
use mathlib.Core.List.{[], ◌∷◌, ◌++◌}
use native.Mathlib.Omega.{arith}
use lib.ListN.{length}
use Rattle.text_field.proofs.Writing.{room, wrote_more, wrote_as}
use Rattle.text_field.specs.Decimal.{decimal}
use Rattle.text_field.proofs.Decimals.{most_digits}
use Rattle.ask_answer.specs.Ending.{field}
use Rattle.ask_answer.proofs.Ends.{number_room}
use Rattle.ask_line.specs.Line.{net_word}
use Rattle.ask_line.proofs.Fields.{report_whole, refused_joins}
use Rattle.ask_line.proofs.put_refused_net.Goals as goal

pub slice_bounds-put_number-count : goal.slice_bounds-put_number-count
slice_bounds-put_number-count c =
    let size-c : length (field net_word (field (decimal c.args.number) (decimal c.args.index ++ 32 ∷ []))) ≤ 26 = report_whole net_word c.args.number c.args.index 32 in
    let fits-c : length (field net_word (field (decimal c.args.number) (decimal c.args.index ++ 32 ∷ [])))
    ≤ length c.args.text.now = omega (arith, size-c) in
    omega (arith, room c.put_report-at.ensures (fits-c))

pub put_number-requires : goal.put_number-requires
put_number-requires c =
    let size-c : length (field net_word (field (decimal c.args.number) (decimal c.args.index ++ 32 ∷ []))) ≤ 26 = report_whole net_word c.args.number c.args.index 32 in
    let fits-c : length (field net_word (field (decimal c.args.number) (decimal c.args.index ++ 32 ∷ [])))
    ≤ length c.args.text.now = omega (arith, size-c) in
    omega (arith, room c.put_report-at.ensures (fits-c), size-c, most_digits 10 c.args.cause)

pub overflow_add-result : goal.overflow_add-result
overflow_add-result c =
    let size-c : length (field net_word (field (decimal c.args.number) (decimal c.args.index ++ 32 ∷ []))) ≤ 26 = report_whole net_word c.args.number c.args.index 32 in
    omega (arith, c.put_report-at.ensures.size, size-c, c.put_number.ensures.size, number_room c.args.cause 10)

pub returns : goal.returns
returns c =
    let size-c : length (field net_word (field (decimal c.args.number) (decimal c.args.index ++ 32 ∷ []))) ≤ 26 = report_whole net_word c.args.number c.args.index 32 in
    let fits-c : length (field net_word (field (decimal c.args.number) (decimal c.args.index ++ 32 ∷ [])))
    ≤ length c.args.text.now = omega (arith, size-c) in
    wrote_as (refused_joins c.args.number c.args.index c.args.cause) (wrote_more c.put_report-at.ensures (fits-c) c.put_number.ensures)
