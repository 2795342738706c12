use Prim.Native.Nat.{◌%◌}
use native.Mathlib.Omega.{arith}
use borrow.Author.Rules.{rules}
use borrow.Author.Tests.{eqb-false}
use Rattle.std.proofs.lemmas.Fn.{fold_over, slice_gives, fronts}
use Rattle.scan_block.proofs.Blocks.{Met, met_more, none_in_block}
use Rattle.scan_block.proofs.some_is.Goals as goal

pub returns : goal.returns
returns c e =
    let folded = fold_over fronts (λ y. y.now) _ Met _ (λ xs all x b q h k. let more = met_more xs all x.now h in search rules) c.iter.result
    c.iter.result.rest.now 1 c.fold-all.result (slice_gives c.iter.result) (λ e j d l r. omega arith) c.fold-all.ensures.ran in
    none_in_block 0 c.args.words.now c.args.from c.requires (rw c.iter.ensures.rest at folded (omega (arith, eqb-false (c.fold-all.result % 2) 0 e)))
