-- The answer of the clash test has a reply that fits.
use Rattle.std.proofs.Common.{sym}
use Rattle.library_reply.proofs.Fitting.{carry_fits}
use Rattle.library_answer.proofs.Operations.{clash_gives, clash_fits}
use Rattle.strumelka.proofs.strumelka_clash.Goals as goal

pub clashed_given-requires : goal.clashed_given-requires
clashed_given-requires c =
    carry_fits clash_gives (sym c.find_clash.ensures)
    (clash_fits c.args.o c.args.k c.args.words.now c.args.set c.args.marks.now)
