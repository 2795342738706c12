use Prim.Native.Nat.{◌%◌}
use native.Mathlib.Omega.{arith}
use borrow.Author.Rules.{rules}
use borrow.Author.Tests.{eqb-false}
use Rattle.std.proofs.lemmas.Fn.{fold_over, slice_gives, fronts}
use Rattle.scan_block.proofs.Blocks.{Joined, joined_more, none_in_block}
use Rattle.scan_block.proofs.some_isnt.Goals as goal

pub returns : goal.returns
returns c e =
    let folded = fold_over fronts (λ y. y.now) _ Joined _ (λ xs any x b q h k. let more = joined_more xs any x.now h in search rules) c.iter.result
    c.iter.result.rest.now 0 c.fold-any.result (slice_gives c.iter.result) (λ e j d l r. omega arith) c.fold-any.ensures.ran in
    none_in_block 1 c.args.words.now c.args.from c.requires (rw c.iter.ensures.rest at folded (omega (arith, eqb-false (c.fold-any.result % 2) 1 e)))
