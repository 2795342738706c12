-- The parts' lines are the reason's, and there is room for them or not.
use native.Mathlib.Omega.{arith}
use Rattle.explain.proofs.Listed.{part_length, second_length, count_few, lines_short, lines_room_lem, lines_done_lem}
use Rattle.explain.proofs.write_lines.Goals as goal

pub overflow_mul-places : goal.overflow_mul-places
overflow_mul-places c =
    omega (arith, count_few c.args.o c.args.set c.args.words.now c.args.reason.now c.requires.shape.0 c.requires.shape.2 c.requires.shape.3 c.line_count-count.ensures, c.requires.shape.1)

pub overflow_cast-result : goal.overflow_cast-result
overflow_cast-result c =
    omega (arith, count_few c.args.o c.args.set c.args.words.now c.args.reason.now c.requires.shape.0 c.requires.shape.2 c.requires.shape.3 c.line_count-count.ensures, c.requires.shape.1)

pub returns-then-list-places : goal.returns-then-list-places
returns-then-list-places c =
    lines_short c.args.o c.args.set c.args.words.now c.args.reason.now c.requires.shape.0 c.requires.shape.2 c.requires.shape.3 c.line_count-count.ensures c.args.list.now c.if-list-places.true

pub write_parts-requires : goal.write_parts-requires
write_parts-requires c =
    let p = part_length c.args.o c.args.set c.args.words.now c.args.reason.now c.requires.shape.0 c.requires.shape.2 c.requires.shape.3 in
    let q = second_length c.args.o c.args.set c.args.words.now c.args.reason.now c.requires.shape.0 c.requires.shape.2 c.requires.shape.3 in
    record {
      known = c.requires.known;
      first = (omega (arith, c.requires.shape), omega (arith, c.requires.shape));
      second = omega (arith, c.requires.shape);
      room = lines_room_lem c.args.o c.args.set c.args.words.now c.args.reason.now c.requires.shape.0 c.requires.shape.2 c.requires.shape.3 c.line_count-count.ensures c.args.list.now c.if-list-places.false;
    }

pub overflow_cast-result-2 : goal.overflow_cast-result-2
overflow_cast-result-2 c =
    omega (arith, count_few c.args.o c.args.set c.args.words.now c.args.reason.now c.requires.shape.0 c.requires.shape.2 c.requires.shape.3 c.line_count-count.ensures, c.requires.shape.1)

pub returns : goal.returns
returns c =
    lines_done_lem c.args.o c.args.set c.args.words.now c.args.reason.now c.requires.shape.0 c.requires.shape.2 c.requires.shape.3 c.line_count-count.ensures c.args.list.now c.if-list-places.false c.write_parts.ensures
