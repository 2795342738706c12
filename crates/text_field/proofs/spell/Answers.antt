use native.Mathlib.Omega.{arith}
use lib.ListN.{length-set}
use Rattle.text_field.proofs.Decimals.{spelled_all, spelled_next, shorter}
use Rattle.text_field.proofs.spell.Goals as goal

pub returns-then-rest-eq0 : goal.returns-then-rest-eq0
returns-then-rest-eq0 c = let v = c.loop-at.invariant in (spelled_all _ _ _ _ c.loop-at-test.true (omega arith) c.if-rest-eq0.true v.3, omega arith)

pub loop-at-preserved : goal.loop-at-preserved
loop-at-preserved c =
    let v = c.loop-at.invariant in
    (simp length-set v.0, shorter _ _ c.loop-at-test.true v.1, λ h. omega arith, spelled_next _ _ _ _ c.loop-at-test.true (omega arith) c.if-rest-eq0.false v.3)
