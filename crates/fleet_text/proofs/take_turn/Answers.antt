use Rattle.fleet_text.proofs.Turns.{end_ask, file_ask, turned_end, turned_bad, turned_short, turned_file}
use Rattle.fleet_text.proofs.take_turn.Goals as goal

pub close_turn-requires : goal.close_turn-requires
close_turn-requires c =
    (end_ask c.args.left c.args.sums c.requires.few.1, c.requires.room)

pub refuse_turn-requires : goal.refuse_turn-requires
refuse_turn-requires c =
    (end_ask c.args.left c.args.sums c.requires.few.1, c.requires.room)

pub refuse_turn-requires-then-file-size : goal.refuse_turn-requires-then-file-size
refuse_turn-requires-then-file-size c =
    (end_ask c.args.left c.args.sums c.requires.few.1, c.requires.room)

-- The file is cut.
pub returns-then-file-size : goal.returns-then-file-size
returns-then-file-size c =
    turned_short c.args.left c.args.head.now c.read_head-first.ensures c.args.sums c.args.file.now c.args.text.now _ c.in-Size.is c.if-file-size.true c.refuse_turn-then-file-size.ensures.line
    c.refuse_turn-then-file-size.ensures.state

pub take_file-requires : goal.take_file-requires
take_file-requires c =
    record {
      few = file_ask c.args.left c.args.head.now c.read_head-first.ensures c.args.sums c.in-Size.is c.requires.few.1;
      room = c.requires.room;
    }

-- The input has ended.
pub returns-in-End : goal.returns-in-End
returns-in-End c =
    turned_end c.args.left c.args.head.now c.read_head-first.ensures c.args.sums c.args.file.now c.args.text.now _ c.in-End.is c.close_turn.ensures.line c.close_turn.ensures.state

-- It is at fault.
pub returns-in-Bad : goal.returns-in-Bad
returns-in-Bad c =
    turned_bad c.args.left c.args.head.now c.read_head-first.ensures c.args.sums c.args.file.now c.args.text.now _ c.in-Bad.is c.refuse_turn.ensures.line c.refuse_turn.ensures.state

-- The file is whole.
pub returns-else-file-size : goal.returns-else-file-size
returns-else-file-size c =
    turned_file c.args.left c.args.head.now c.read_head-first.ensures c.args.sums c.args.file.now c.args.text.now _ c.in-Size.is c.if-file-size.false c.take_file.ensures.line
    c.take_file.ensures.state
