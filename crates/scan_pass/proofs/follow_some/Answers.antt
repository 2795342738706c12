use Prim.Native.Nat.{◌+◌, ◌*◌, ◌/◌, ◌≤◌}
use mathlib.Core.Path.{◌≡◌, sym, ◌∙◌}
use native.Mathlib.Omega.{arith}
use lib.ListN.{length}
use Rattle.scan_pass.proofs.Passed.{words_passed}
use Rattle.scan_pass.proofs.follow_some.Goals as goal
use Rattle.scan_pass.proofs.follow_some.Goals.{then-has_sign, else-has_sign}

pub loop-block-preserved : goal.loop-block-preserved
loop-block-preserved c =
    let room : c.loop-block.block * 8 + 8 ≤ length c.args.pass.now.words.now = omega arith in
    let e : (c.loop-block.block + 1) * 8 ≡ c.loop-block.block * 8 + 8 = omega arith in (
      c.if-has_sign.auto.marks ∙ c.loop-block.invariant.0,
      c.loop-block.invariant.1 ∙ rw e (elim c.if-has_sign.branch [
        | then-has_sign w ↦ rw w.marks-is w.follow_blocks.ensures
        | else-has_sign w ↦
            rw w.marks-is (words_passed c.args.pass.now.lanes.set c.args.pass.now.lanes.sign c.args.pass.now.words.now c.loop-block.marks 8 (c.loop-block.block * 8) room
            (c.has_sign.ensures w.if-has_sign.false))
      ]),
    )

pub returns : goal.returns
returns c =
    let e : c.loop-block.block ≡ length c.args.pass.now.words.now / 8 = omega arith in
    c.follow_rest.ensures ∙ sym (rw e at c.loop-block.invariant.1)
