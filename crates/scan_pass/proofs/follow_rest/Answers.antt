use Prim.Native.Nat.{◌+◌}
use mathlib.Core.Path.{sym, ◌∙◌}
use native.Mathlib.Omega.{arith}
use Rattle.scan_pass.proofs.Links.{lane_end, part_ends, part_more, part_end}
use Rattle.scan_pass.proofs.follow_rest.Goals as goal

pub follow-requires-clause-ends : goal.follow-requires-clause-ends
follow-requires-clause-ends c =
    part_ends c.args.pass.now.words.now c.args.from _ c.loop-word.word-index (omega (arith, c.requires.rest)) c.loop-word-test.true c.args.pass.now.inside

pub loop-word-preserved : goal.loop-word-preserved
loop-word-preserved c = (
  c.follow.auto.marks ∙ c.loop-word.invariant.0,
  part_more c.args.pass.now.words.now c.args.from _ c.loop-word.word-index (omega (arith, c.requires.rest)) c.loop-word-test.true
      c.args.pass.now.lanes.set c.args.pass.now.lanes.sign c.loop-word.marks c.loop-word.invariant.1 c.follow.ensures,
)

pub returns : goal.returns
returns c =
    let e = part_end c.args.pass.now.words.now c.args.from _ c.loop-word.word-index (omega (arith, c.requires.rest)) c.loop-word.auto.word-index-end c.loop-word-test.false in
    sym (c.loop-word.invariant.1 ∙ lane_end c.args.pass.now.lanes.set c.args.pass.now.lanes.sign c.args.pass.now.words.now (c.args.from + c.loop-word.word-index) c.loop-word.marks (omega (arith, e)))
