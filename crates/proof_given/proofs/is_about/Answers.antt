use mathlib.Core.Path.{sym, ◌∙◌}
use lib.Dec.{eqb}
use Rattle.std.proofs.Common.{rules, tests}
use Rattle.std.proofs.lemmas.Iterator.{YieldsList-from_slice}
use Rattle.std.proofs.lemmas.Iterator.Search.{any_from_yields_List}
use Rattle.theory.specs.Words.{tail_of}
use Rattle.proof_given.proofs.Loops.{about_any}
use Rattle.proof_given.proofs.is_about.Goals as goal

pub returns : goal.returns
returns c =
    any_from_yields_List (λ v. eqb (tail_of v) c.args.n) _ _ _ c.any.ensures.ran (YieldsList-from_slice _ (cc)) (λ x b q k. search (rules, tests))
    ∙ sym (about_any c.args.added.now c.args.n c.args.count c.requires)
