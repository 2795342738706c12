-- The place that was found stands in the line.
use Rattle.explain_line.proofs.Stored.{link_put}
use Rattle.explain_line.proofs.put_link.Goals as goal

pub returns : goal.returns
returns c =
    link_put c.args.set c.args.words.now c.args.list.now c.args.n c.args.x c.args.y c.args.sign c.requires.sign c.find_link-place.ensures.value c.put_line.ensures
