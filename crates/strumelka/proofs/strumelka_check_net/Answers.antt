-- The answer of the check of a net has a reply that fits.
use Rattle.std.proofs.Common.{sym}
use Rattle.net.specs.Table.{checked_reply}
use Rattle.library_reply.proofs.Fitting.{carry_fits, checked_fits}
use Rattle.strumelka.proofs.strumelka_check_net.Goals as goal

pub checked_given-requires : goal.checked_given-requires
checked_given-requires c = carry_fits checked_reply (sym c.check_net.ensures) (checked_fits c.args.o c.args.k c.args.words.now c.args.set)
