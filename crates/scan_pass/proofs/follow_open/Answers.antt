use Prim.Native.Nat.{◌<◌}
use mathlib.Core.Path.{refl, ◌∙◌}
use native.Mathlib.Omega.{arith}
use lib.ListN.{length}
use Rattle.theory.proofs.origins.Statements.{inside_from_at}
use Rattle.scan_pass.proofs.Links.{lane_more}
use Rattle.scan_pass.proofs.follow_open.Goals as goal

pub follow-requires : goal.follow-requires
follow-requires c =
    record {
      ends = inside_from_at c.args.pass.now.words.now c.args.pass.now.inside c.seek-i.result (omega (arith, c.if-i-end.true, c.loop-i.invariant.0));
      room = omega (arith, c.loop-i.invariant.2, c.requires.room);
    }

pub lanes_of-requires : goal.lanes_of-requires
lanes_of-requires c =
    (inside_from_at c.args.pass.now.words.now c.args.pass.now.inside c.seek-i.result (omega (arith, c.if-i-end.true, c.loop-i.invariant.0))).origin

pub loop-i-preserved-then-i-end : goal.loop-i-preserved-then-i-end
loop-i-preserved-then-i-end c =
    let l : c.seek-i.result < length c.args.pass.now.words.now = omega (arith, c.if-i-end.true, c.loop-i.invariant.0) in (
      omega (arith, c.end_after-end.ensures, c.loop-i.invariant.0),
      omega (arith, l),
      c.follow.auto.marks ∙ c.loop-i.invariant.2,
      lane_more c.args.pass.now.lanes.set c.args.pass.now.lanes.sign c.args.pass.now.words.now c.seek-i.result c.loop-i.marks (c.loop-i.invariant.3 ∙ c.seek-i.ensures.idle c.args.pass.now.lanes.set c.args.pass.now.lanes.sign) l c.follow.ensures refl,
    )

pub loop-i-preserved : goal.loop-i-preserved
loop-i-preserved c =
    (c.loop-i.invariant.0, c.seek-i.ensures.lower_bound.1, c.loop-i.invariant.2, c.loop-i.invariant.3 ∙ c.seek-i.ensures.idle c.args.pass.now.lanes.set c.args.pass.now.lanes.sign)
