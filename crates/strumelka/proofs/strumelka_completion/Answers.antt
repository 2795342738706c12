-- The answer of the completion has a reply that fits.
use Rattle.std.proofs.Common.{sym}
use Rattle.library_reply.proofs.Fitting.{carry_fits}
use Rattle.library_answer.proofs.Operations.{completion_gives, completion_fits}
use Rattle.strumelka.proofs.strumelka_completion.Goals as goal

pub completed_given-requires : goal.completed_given-requires
completed_given-requires c =
    carry_fits completion_gives (sym c.complete_net.ensures)
    (completion_fits c.args.o c.args.k c.args.words.now c.args.set c.args.marks.now c.args.list.now)
