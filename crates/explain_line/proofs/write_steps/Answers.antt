use Prim.Native.Nat.{◌+◌, ◌*◌}
use mathlib.Core.Path.{◌≡◌, refl, sym, ◌∙◌}
use native.Mathlib.Omega.{arith}
use Rattle.explain_line.specs.Blocks.{way_at}
use Rattle.explain_line.proofs.Stored.{steps_put_go, steps_put_end}
use Rattle.explain_line.proofs.write_steps.Goals as goal

pub loop-i-init : goal.loop-i-init
loop-i-init c = let z : c.args.n + 2 * 0 ≡ c.args.n = omega arith in (refl, rw z refl)

pub loop-i-preserved : goal.loop-i-preserved
loop-i-preserved c =
    let go = steps_put_go (way_at c.args.way) c.args.set c.args.words.now c.args.x c.args.nodes.now c.loop-i.list (c.args.n + 2 * c.loop-i.i) c.loop-i.i (omega arith) c.put_step.ensures in
    let e : c.args.n + 2 * (c.loop-i.i + 1) ≡ c.args.n + 2 * c.loop-i.i + 2 = omega arith in
    (c.put_step.auto.list ∙ c.loop-i.invariant.0, rw e (c.loop-i.invariant.1 ∙ go))

pub returns : goal.returns
returns c =
    sym (c.loop-i.invariant.1 ∙ steps_put_end (way_at c.args.way) c.args.set c.args.words.now c.args.x c.args.nodes.now c.loop-i.list (c.args.n + 2 * c.loop-i.i) c.loop-i.i (omega arith))
