-- The search found no word from the first one on that says "is not".
use mathlib.Core.Path.{◌≡◌}
use borrow.Author.Rules.{rules}
use borrow.Author.Tests.{tests}
use lib.ListN.{length}
use Rattle.std.specs.List.{between}
use Rattle.std.proofs.lemmas.Iterator.{cases_from_any, YieldsList-from_slice}
use Rattle.theory.specs.Words.{parity}
use Rattle.scan_block.proofs.Blocks.{no_isnt_rest}
use Rattle.scan_block.proofs.rest_has_isnt.Goals as goal

pub returns : goal.returns
returns c e =
    let ws = c.args.words.now in
    let found = cases_from_any _ _ _ (λ x. parity x ≡ 1) (λ x. parity x ≡ 1 → ⊥) c.any.ensures.ran
    (YieldsList-from_slice (between c.args.from (length ws) ws) cc) (λ x q k. search (rules, tests)) (λ x q k. search (rules, tests)) in
    no_isnt_rest ws c.args.from (rw e at found)
