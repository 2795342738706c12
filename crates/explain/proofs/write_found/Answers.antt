-- The reason is the front of the list.
use mathlib.Core.Path.{sym}
use lib.Seq.{length-take-le}
use Rattle.explain.proofs.write_found.Goals as goal

pub slice_bounds-write_lines-end : goal.slice_bounds-write_lines-end
slice_bounds-write_lines-end c =
    sym (length-take-le c.args.size c.args.nodes.now c.requires.inside)

pub returns : goal.returns
returns c =
    rw (length-take-le c.args.size c.args.nodes.now c.requires.inside) at c.write_lines.ensures
