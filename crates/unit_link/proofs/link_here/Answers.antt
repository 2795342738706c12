use native.Mathlib.Omega.{arith}
use Rattle.unit_gather.proofs.Gathering.{far_inside}
use Rattle.unit_link.proofs.InPlace.{here_not, here_put}
use Rattle.unit_link.proofs.link_here.Goals as goal

pub returns-then-not-fires_on : goal.returns-then-not-fires_on
returns-then-not-fires_on c =
    let t = (here_not c.args.set c.args.c c.args.word c.args.marks.now c.fires_on.ensures c.if-not-fires_on.true) in
    record {
      done = t.0;
      new = t.1;
    }

pub put_mark-requires : goal.put_mark-requires
put_mark-requires c =
    (omega (arith, c.requires.markers.put_in), omega (arith, far_inside c.args.c.at_head c.requires.ends c.plain_of-plain.ensures c.far_of-far.ensures, c.requires.room))

pub returns : goal.returns
returns c =
    record {
      done = here_put c.args.set c.args.c c.args.word c.args.marks.now c.fires_on.ensures c.if-not-fires_on.false c.plain_of-plain.ensures c.far_of-far.ensures c.put_mark.ensures.done;
      new = c.put_mark.ensures.new;
    }
