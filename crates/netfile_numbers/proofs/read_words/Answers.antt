use Prim.Native.Nat.{◌+◌, ◌*◌, ◌≤◌}
use mathlib.Core.Path.{◌≡◌, refl, sym, ◌∙◌}
use native.Mathlib.Omega.{arith}
use lib.ListN.{length, length-set}
use Rattle.std.specs.Slice.Iter.{chunks_exact_rest}
use Rattle.netfile_numbers.specs.Bytes.{u32s}
use Rattle.netfile_numbers.proofs.Reading.{words_stored, number_taken, words_all, all_read}
use Rattle.netfile_numbers.proofs.read_words.Goals as goal

pub loop-i-init : goal.loop-i-init
unfolding u32s
loop-i-init c =
    let z : c.into_iter-i-iterator.result.count ≡ 0 = cc in
    let r : chunks_exact_rest c.into_iter-i-iterator.result.iter ≡ c.args.body.now = cc in
    (omega arith, cc, rw z r, refl, rw z refl)

pub loop-i-preserved : goal.loop-i-preserved
loop-i-preserved c =
    let z = c.in-Some.ensures.steps in
    let v = c.loop-i.invariant in
    let taken = sym v.2 ∙ z.0.1.0 in
    let t = number_taken _ _ _ _ taken (z.0.1.1 ∙ v.1) in
    let inside : c.loop-i.i-iterator.count * 4 + 4 ≤ length c.args.body.now = t.0 in
    (omega arith, z.0.0 ∙ v.1, rw z.2 t.1, simp length-set v.3, rw (z.1, z.2) (words_stored _ _ _ _ taken (z.0.1.1 ∙ v.1) _ _ _ (omega arith) v.4 c.u32_at.ensures))

pub returns : goal.returns
returns c =
    let z = c.in-None.ensures.steps in
    let v = c.loop-i.invariant in
    words_all _ _ _ _ _ (all_read _ _ _ v.0 v.2 (omega arith)) v.4
