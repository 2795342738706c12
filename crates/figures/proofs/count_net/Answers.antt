use mathlib.Core.Path.{sym, ◌∙◌}
use Rattle.figures.proofs.Outcomes.{figured_as}
use Rattle.figures.proofs.count_net.Goals as goal

pub count_by-requires : goal.count_by-requires
count_by-requires c =
    λ n e. sym c.check_net-checked.ensures ∙ e

pub returns : goal.returns
returns c =
    figured_as c.args.o c.args.k c.args.words.now c.args.set c.check_net-checked.ensures c.count_by.ensures
