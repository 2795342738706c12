use mathlib.Core.Path.{sym, ◌∙◌}
use native.Mathlib.Omega.{arith}
use borrow.Author.Rules.{rules}
use borrow.Author.Tests.{tests}
use lib.Dec.{leb}
use lib.ListN.{take}
use Rattle.std.proofs.lemmas.Iterator.{YieldsList-from_slice}
use Rattle.std.proofs.lemmas.Iterator.Search.{all_from_yields_List}
use Rattle.satisfies.proofs.Testing.{low_all}
use Rattle.satisfies.proofs.are_low.Goals as goal

pub returns : goal.returns
returns c =
    all_from_yields_List (λ b. leb b 3) _ _ _ c.all.ensures.ran (YieldsList-from_slice (take c.args.size c.args.table.now) cc) (λ x b q k. search (rules, tests))
    ∙ sym (low_all c.args.table.now 0 c.args.size (omega arith))
