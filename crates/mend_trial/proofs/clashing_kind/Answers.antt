use lib.ListN.{drop}
use native.Mathlib.Omega.{arith}
use Rattle.scan_start.proofs.Starts.{started_low}
use Rattle.mend_trial.proofs.Settling.{kind_found}
use Rattle.mend_trial.proofs.clashing_kind.Goals as goal

pub settle-requires : goal.settle-requires
settle-requires c =
    record {
      inside = c.requires.inside;
      few = c.requires.few;
      room = omega (arith, c.requires.room, c.put_start.auto.marks);
      low = rw c.put_start.ensures (started_low c.args.n c.args.x c.requires.node (drop c.args.n c.args.marks.now));
    }

pub returns : goal.returns
returns c =
    let t = (kind_found c.args.n c.args.words.now c.requires.inside c.args.marks.now c.settle.ensures c.args.o c.args.k c.args.x c.requires.size c.requires.node c.put_start.ensures c.first_with.ensures) in
    record {
      found = t.0;
      past = t.1;
    }
