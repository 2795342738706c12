use mathlib.Core.Path.{refl, sym, ◌∙◌}
use native.Mathlib.Omega.{arith}
use Rattle.net.proofs.NetCheck.{plain_chosen}
use Rattle.figures.proofs.Outcomes.{figured_as}
use Rattle.figures.proofs.count_plain.Goals as goal

pub count_by-requires : goal.count_by-requires
count_by-requires c =
    λ n e. (plain_chosen c.args.o c.args.k c.args.words.now (sym c.check_plain-checked.ensures ∙ e) 1 (omega arith) refl).0

pub returns : goal.returns
returns c =
    figured_as c.args.o c.args.k c.args.words.now 1 c.check_plain-checked.ensures c.count_by.ensures
