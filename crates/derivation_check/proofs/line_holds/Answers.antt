use mathlib.Core.Path.{refl}
use Rattle.derivation_check.proofs.Loop.{line_holds}
use Rattle.derivation_check.proofs.line_holds.Goals as goal

pub returns : goal.returns
returns c =
    line_holds c.args.o c.args.k c.args.set c.args.words.now c.args.list.now c.args.n c.requires.line refl refl c.ground_holds.ensures
