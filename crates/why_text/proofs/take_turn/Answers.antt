use mathlib.Core.Path.{refl}
use mathlib.Core.List.{[]}
use Rattle.ask_text.proofs.Whole.{handed}
use Rattle.why_text.proofs.Parts.{turned_as, handed_part, malformed_part}
use Rattle.why_text.proofs.take_turn.Goals as goal

pub turn_bodies-requires : goal.turn_bodies-requires
turn_bodies-requires c =
    let bodies = handed _ c.read_contents.ensures (λ x. x.now) c.read_bodies-bodies.result (record { ref_ptr = (0, 0); now = [] }) c.in-Ok.is c.read_bodies-bodies.ensures in
    record {
      nodes = bodies.nodes_room;
      links = bodies.words_room;
      set = bodies.set_room;
      room = c.requires;
    }

pub returns-in-Ok : goal.returns-in-Ok
returns-in-Ok c =
    turned_as
    (handed_part c.args.file.now c.read_contents.ensures c.args.i (λ x. x.now) c.read_bodies-bodies.result (record { ref_ptr = (0, 0); now = [] }) c.in-Ok.is
    c.read_bodies-bodies.ensures)
    c.turn_bodies.ensures

pub returns-in-Err : goal.returns-in-Err
returns-in-Err c =
    turned_as (malformed_part c.args.file.now c.read_contents.ensures c.args.i c.in-Err.is) (record { text = c.put_report-size.ensures; going = refl })
