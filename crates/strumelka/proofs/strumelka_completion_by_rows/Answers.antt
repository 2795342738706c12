-- The answer of the completion by rows has a reply that fits.
use Rattle.std.proofs.Common.{sym}
use Rattle.library_reply.proofs.Fitting.{carry_fits}
use Rattle.library_answer.proofs.Operations.{rows_gives, rows_fits}
use Rattle.strumelka.proofs.strumelka_completion_by_rows.Goals as goal

pub completed_given-requires : goal.completed_given-requires
completed_given-requires c =
    carry_fits rows_gives (sym c.completion_by_rows.ensures)
    (rows_fits c.args.o c.args.k c.args.words.now c.args.set c.args.yeses.now c.args.noes.now c.args.list.now)
