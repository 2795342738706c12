use Prim.Native.Nat.{◌+◌, ◌-◌}
use mathlib.Core.Path.{◌≡◌, sym}
use native.Mathlib.Omega.{arith}
use Rattle.scan_pass.proofs.Links.{part_ends, part_more, part_end}
use Rattle.scan_pass.proofs.closed_words.Goals as goal

pub is_closed-requires : goal.is_closed-requires
is_closed-requires c =
    record {
      ends = part_ends c.args.pass.now.words.now c.args.from _ c.loop-k.k (omega (arith, c.requires.block)) c.loop-k-test.true c.args.pass.now.inside;
      room = c.requires.room;
    }

pub loop-k-preserved : goal.loop-k-preserved
loop-k-preserved c set sign =
    part_more c.args.pass.now.words.now c.args.from _ c.loop-k.k (omega (arith, c.requires.block)) c.loop-k-test.true set sign c.args.marks.now
    (c.loop-k.invariant set sign) (sym (c.is_closed.ensures c.if-not-is_closed.false set sign))

pub returns : goal.returns
returns c =
    let e : c.loop-k.k ≡ c.args.from + 8 - c.args.from = part_end c.args.pass.now.words.now c.args.from _ c.loop-k.k (omega (arith, c.requires.block)) c.loop-k.auto.k-end c.loop-k-test.false in
    let f : c.loop-k.k ≡ 8 = omega (arith, e) in
    record { idle = λ set sign. rw f at (c.loop-k.invariant set sign); upper_bound = omega arith }
