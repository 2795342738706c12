use Prim.Native.Nat.{◌+◌}
use mathlib.Core.Path.{◌≡◌, sym, ◌∙◌}
use native.Mathlib.Omega.{arith}
use lib.ListN.{length}
use Rattle.unit_fault.proofs.Faults.{fault_stop, fault_go, fault_end, rest_all}
use Rattle.unit_fault.proofs.first_fault.Goals as goal

pub returns-then-is_faulty : goal.returns-then-is_faulty
returns-then-is_faulty c =
    sym (c.loop-i.invariant
    ∙ fault_stop c.args.n c.loop-i.inside c.args.program.now c.loop-i.i c.loop-i-test.true
    (rw (rest_all c.args.program.now (c.loop-i.i + 1)) at c.is_faulty.ensures) c.if-is_faulty.true)

pub loop-i-preserved : goal.loop-i-preserved
loop-i-preserved c =
    c.loop-i.invariant
    ∙ fault_go c.args.n c.loop-i.inside c.args.program.now c.loop-i.i c.loop-i-test.true
    (rw (rest_all c.args.program.now (c.loop-i.i + 1)) at c.is_faulty.ensures) c.if-is_faulty.false c.stays_within-inside.ensures

pub returns : goal.returns
returns c =
    let e : length c.args.program.now ≡ c.loop-i.i = omega arith in
    e ∙ sym (c.loop-i.invariant ∙ fault_end c.args.n c.loop-i.inside c.args.program.now c.loop-i.i c.loop-i-test.false)
