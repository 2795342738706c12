use Prim.Native.Nat.{◌+◌, ◌*◌}
use mathlib.Core.Path.{◌≡◌, ◌∙◌}
use native.Mathlib.Omega.{arith}
use Rattle.scan_pass.proofs.Blocks.{blocks_count, block_ends, block_more}
use Rattle.scan_pass.proofs.follow_blocks.Goals as goal

pub follow-requires-clause-ends : goal.follow-requires-clause-ends
follow-requires-clause-ends c =
    block_ends c.args.pass.now.words.now c.args.from _ (omega arith) c.as_chunks.ensures.front c.as_chunks.ensures.front_len
    c.loop-block.block-index c.loop-block-test.true c.loop-word.word-index c.loop-word-test.true c.args.pass.now.inside

pub loop-word-preserved : goal.loop-word-preserved
loop-word-preserved c = (
  c.follow.auto.marks ∙ c.loop-word.invariant.0,
  block_more c.args.pass.now.words.now c.args.from _ (omega arith) c.as_chunks.ensures.front c.as_chunks.ensures.front_len
      c.loop-block.block-index c.loop-block-test.true c.loop-word.word-index c.loop-word-test.true
      c.args.pass.now.lanes.set c.args.pass.now.lanes.sign c.loop-word.marks c.loop-word.invariant.1 c.follow.ensures,
)

pub loop-block-preserved : goal.loop-block-preserved
loop-block-preserved c =
    let e : c.args.from + 8 * c.loop-block.block-index + c.loop-word.word-index ≡ c.args.from + 8 * (c.loop-block.block-index + 1) = omega arith in (
      c.loop-word.invariant.0 ∙ c.loop-block.invariant.0,
      c.loop-block.invariant.1 ∙ rw e at c.loop-word.invariant.1,
    )

pub returns : goal.returns
returns c =
    let n = blocks_count c.args.pass.now.words.now c.args.from _ (omega arith) c.as_chunks.ensures.front c.as_chunks.ensures.front_len in
    let e : c.args.from + 8 * c.loop-block.block-index ≡ c.args.to = omega (arith, n) in
    rw e at c.loop-block.invariant.1
