use Prim.Native.Nat.{◌+◌, ◌%◌, ◌≤◌}
use mathlib.Core.List.{◌++◌}
use native.Mathlib.Omega.{arith}
use lib.ListN.{length}
use Rattle.theory.specs.Words.{sign_at}
use Rattle.text_field.specs.Writing.{Wrote}
use Rattle.text_field.proofs.Writing.{rejoined, room, wrote_more, wrote_as}
use Rattle.derivation_lines.specs.Flat.{ground_at}
use Rattle.why_line.specs.Text.{said_text, front_text}
use Rattle.why_line.proofs.Fields.{front_room, two_parts_room, ground_room, line_joins}
use Rattle.why_line.proofs.put_derived.Goals as goal

pub slice_bounds-put_said-count : goal.slice_bounds-put_said-count
slice_bounds-put_said-count c =
    let one-fits-c : length (front_text c.args.n c.tail_of.result) ≤ length c.args.text.now = omega (arith, front_room c.args.n c.tail_of.result) in
    omega (arith, room c.put_front-at.ensures (one-fits-c))

pub put_said-at-requires : goal.put_said-at-requires
put_said-at-requires c =
    let one-fits-c : length (front_text c.args.n c.tail_of.result) ≤ length c.args.text.now = omega (arith, front_room c.args.n c.tail_of.result) in
    omega (arith, room c.put_front-at.ensures (one-fits-c), front_room c.args.n c.tail_of.result)

pub overflow_add-at : goal.overflow_add-at
overflow_add-at c =
    let one-fits-c : length (front_text c.args.n c.tail_of.result) ≤ length c.args.text.now = omega (arith, front_room c.args.n c.tail_of.result) in
    let two_size-c : length (front_text c.args.n c.tail_of.result ++ said_text (sign_at (c.args.word % 2)) c.head_of.result) ≤ 44 = two_parts_room c.args.n c.tail_of.result (sign_at (c.args.word % 2)) c.head_of.result in
    let two-fit-c : length (front_text c.args.n c.tail_of.result ++ said_text (sign_at (c.args.word % 2)) c.head_of.result) ≤ length c.args.text.now = omega (arith, two_size-c) in
    let two-written-c : Wrote (front_text c.args.n c.tail_of.result ++ said_text (sign_at (c.args.word % 2)) c.head_of.result) c.args.text.now (rejoined c.put_front-at.result c.put_front-at.new.text c.put_said-at.new.text) (c.put_front-at.result + c.put_said-at.result) = wrote_more c.put_front-at.ensures (one-fits-c) c.put_said-at.ensures in
    omega (arith, two-fit-c, (two-written-c).size)

pub slice_bounds-put_ground-count : goal.slice_bounds-put_ground-count
slice_bounds-put_ground-count c =
    let one-fits-c : length (front_text c.args.n c.tail_of.result) ≤ length c.args.text.now = omega (arith, front_room c.args.n c.tail_of.result) in
    let two_size-c : length (front_text c.args.n c.tail_of.result ++ said_text (sign_at (c.args.word % 2)) c.head_of.result) ≤ 44 = two_parts_room c.args.n c.tail_of.result (sign_at (c.args.word % 2)) c.head_of.result in
    let two-fit-c : length (front_text c.args.n c.tail_of.result ++ said_text (sign_at (c.args.word % 2)) c.head_of.result) ≤ length c.args.text.now = omega (arith, two_size-c) in
    let two-written-c : Wrote (front_text c.args.n c.tail_of.result ++ said_text (sign_at (c.args.word % 2)) c.head_of.result) c.args.text.now (rejoined c.put_front-at.result c.put_front-at.new.text c.put_said-at.new.text) (c.put_front-at.result + c.put_said-at.result) = wrote_more c.put_front-at.ensures (one-fits-c) c.put_said-at.ensures in
    omega (arith, room (two-written-c) (two-fit-c))

pub put_ground-at-requires : goal.put_ground-at-requires
put_ground-at-requires c =
    let one-fits-c : length (front_text c.args.n c.tail_of.result) ≤ length c.args.text.now = omega (arith, front_room c.args.n c.tail_of.result) in
    let two_size-c : length (front_text c.args.n c.tail_of.result ++ said_text (sign_at (c.args.word % 2)) c.head_of.result) ≤ 44 = two_parts_room c.args.n c.tail_of.result (sign_at (c.args.word % 2)) c.head_of.result in
    let two-fit-c : length (front_text c.args.n c.tail_of.result ++ said_text (sign_at (c.args.word % 2)) c.head_of.result) ≤ length c.args.text.now = omega (arith, two_size-c) in
    let two-written-c : Wrote (front_text c.args.n c.tail_of.result ++ said_text (sign_at (c.args.word % 2)) c.head_of.result) c.args.text.now (rejoined c.put_front-at.result c.put_front-at.new.text c.put_said-at.new.text) (c.put_front-at.result + c.put_said-at.result) = wrote_more c.put_front-at.ensures (one-fits-c) c.put_said-at.ensures in
    record {
      room = omega (arith, room (two-written-c) (two-fit-c), two_size-c);
      numbers = c.requires.numbers.1;
      some = c.requires.some;
    }

pub overflow_add-at-2 : goal.overflow_add-at-2
overflow_add-at-2 c =
    let one-fits-c : length (front_text c.args.n c.tail_of.result) ≤ length c.args.text.now = omega (arith, front_room c.args.n c.tail_of.result) in
    let two_size-c : length (front_text c.args.n c.tail_of.result ++ said_text (sign_at (c.args.word % 2)) c.head_of.result) ≤ 44 = two_parts_room c.args.n c.tail_of.result (sign_at (c.args.word % 2)) c.head_of.result in
    let two-written-c : Wrote (front_text c.args.n c.tail_of.result ++ said_text (sign_at (c.args.word % 2)) c.head_of.result) c.args.text.now (rejoined c.put_front-at.result c.put_front-at.new.text c.put_said-at.new.text) (c.put_front-at.result + c.put_said-at.result) = wrote_more c.put_front-at.ensures (one-fits-c) c.put_said-at.ensures in
    omega (arith, two_size-c, (two-written-c).size, c.put_ground-at.ensures.size, ground_room c.args.told c.args.words.now (ground_at c.args.rule c.args.i c.args.j))

pub returns : goal.returns
returns c =
    let one-fits-c : length (front_text c.args.n c.tail_of.result) ≤ length c.args.text.now = omega (arith, front_room c.args.n c.tail_of.result) in
    let two_size-c : length (front_text c.args.n c.tail_of.result ++ said_text (sign_at (c.args.word % 2)) c.head_of.result) ≤ 44 = two_parts_room c.args.n c.tail_of.result (sign_at (c.args.word % 2)) c.head_of.result in
    let two-fit-c : length (front_text c.args.n c.tail_of.result ++ said_text (sign_at (c.args.word % 2)) c.head_of.result) ≤ length c.args.text.now = omega (arith, two_size-c) in
    let two-written-c : Wrote (front_text c.args.n c.tail_of.result ++ said_text (sign_at (c.args.word % 2)) c.head_of.result) c.args.text.now (rejoined c.put_front-at.result c.put_front-at.new.text c.put_said-at.new.text) (c.put_front-at.result + c.put_said-at.result) = wrote_more c.put_front-at.ensures (one-fits-c) c.put_said-at.ensures in
    let whole = wrote_more (two-written-c) (two-fit-c) c.put_ground-at.ensures in
    let line = wrote_as (line_joins c.args.told c.args.words.now c.args.n c.args.word c.args.rule c.args.i c.args.j c.tail_of.ensures c.head_of.ensures) whole in
    (line, omega (arith, two_size-c, (two-written-c).size, c.put_ground-at.ensures.size, ground_room c.args.told c.args.words.now (ground_at c.args.rule c.args.i c.args.j)))
