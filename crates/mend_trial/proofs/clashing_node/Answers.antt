use lib.ListN.{drop}
use native.Mathlib.Omega.{arith}
use Rattle.mend_trial.proofs.Settling.{link_low_more, node_found}
use Rattle.mend_trial.proofs.clashing_node.Goals as goal

pub settle-requires : goal.settle-requires
settle-requires c =
    record {
      inside = c.requires.inside;
      few = c.requires.few;
      room = omega (arith, c.requires.room, c.put_link.auto.marks);
      low = rw c.put_link.ensures (link_low_more c.args.n c.args.word (drop c.args.n c.args.marks.now) c.requires.ends);
    }

pub returns : goal.returns
returns c =
    let t = (node_found c.args.n c.args.words.now c.requires.inside c.args.marks.now c.settle.ensures c.args.word c.requires.ends c.put_link.ensures c.first_with.ensures) in
    record {
      found = t.0;
      past = t.1;
    }
