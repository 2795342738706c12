use mathlib.Core.Path.{◌∙◌}
use mathlib.Core.List.{[]}
use Rattle.figures_file.proofs.Whole.{handed, refused_malformed}
use Rattle.figures_file.proofs.count_file.Goals as goal

pub count_bodies-requires : goal.count_bodies-requires
count_bodies-requires c =
    let bodies = handed _ c.read_contents.ensures (λ x. x.now) c.read_bodies-bodies.result (record { ref_ptr = (0, 0); now = [] }) c.in-Ok.is c.read_bodies-bodies.ensures in
    record {
      nodes = bodies.nodes_room;
      links = bodies.words_room;
      set = bodies.set_room;
    }

pub returns-in-Ok : goal.returns-in-Ok
returns-in-Ok c =
    let bodies = handed _ c.read_contents.ensures (λ x. x.now) c.read_bodies-bodies.result (record { ref_ptr = (0, 0); now = [] }) c.in-Ok.is c.read_bodies-bodies.ensures in
    c.count_bodies.ensures ∙ bodies.figured_is

pub returns-in-Err : goal.returns-in-Err
returns-in-Err c = refused_malformed _ c.read_contents.ensures c.in-Err.is
