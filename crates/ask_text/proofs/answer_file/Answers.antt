use mathlib.Core.List.{[]}
use native.Mathlib.Omega.{arith}
use Rattle.text_field.proofs.Writing.{wrote_as}
use Rattle.ask_text.proofs.Whole.{handed, file_report_lem}
use Rattle.ask_text.proofs.answer_file.Goals as goal

pub answer_bodies-requires : goal.answer_bodies-requires
answer_bodies-requires c =
    let bodies = handed _ c.read_contents.ensures (λ x. x.now) c.read_bodies-bodies.result (record { ref_ptr = (0, 0); now = [] }) c.in-Ok.is c.read_bodies-bodies.ensures in
    record {
      nodes = bodies.nodes_room;
      links = bodies.words_room;
      set = bodies.set_room;
      room = (omega arith, omega (arith, bodies.questions_room));
    }

pub returns-in-Ok : goal.returns-in-Ok
returns-in-Ok c =
    let bodies = handed _ c.read_contents.ensures (λ x. x.now) c.read_bodies-bodies.result (record { ref_ptr = (0, 0); now = [] }) c.in-Ok.is c.read_bodies-bodies.ensures in
    let all = wrote_as bodies.text_is c.answer_bodies.ensures in
    (all.list, all.size)

pub returns-in-Err : goal.returns-in-Err
returns-in-Err c =
    let all = wrote_as (file_report_lem _ c.read_contents.ensures c.in-Err.is) c.put_report.ensures in
    (all.list, all.size)
