-- Where the two bytes have no lane in common, the word does nothing.
use borrow.Author.Tests.{eqb-true}
use Rattle.scan_link.proofs.Following.{closed_idle}
use Rattle.scan_link.proofs.is_closed.Goals as goal

pub returns : goal.returns
returns c told =
    closed_idle c.args.word c.args.marks.now c.plain_of-plain.ensures c.tail_of-tail.ensures c.head_of-head.ensures (eqb-true _ _ told)
