use mathlib.Core.Path.{refl, sym, ◌∙◌}
use Rattle.theory.specs.Growth.{kept}
use Rattle.theory.proofs.machine.Growth.{set_then}
use Rattle.unit_link.proofs.Spreading.{spread_go, spread_end, spread_whole}
use Rattle.unit_link.proofs.spread_marks.Goals as goal

pub loop-v-init : goal.loop-v-init
loop-v-init c = record { long = refl; left = spread_whole c.args.put c.args.aside.now c.args.n c.args.marks.now; new = kept }

pub loop-v-preserved : goal.loop-v-preserved
loop-v-preserved c = record {
  long = c.put_held-changed.auto.marks ∙ c.loop-v.invariant.long;
  left = c.loop-v.invariant.left ∙ spread_go c.args.put c.args.aside.now c.loop-v.v c.args.n c.loop-v.marks c.loop-v-test.true c.put_held-changed.ensures.done;
  new = set_then c.loop-v.invariant.new c.put_held-changed.ensures.new;
}

pub returns : goal.returns
returns c =
    record {
      done = sym (c.loop-v.invariant.left ∙ spread_end c.args.put c.args.aside.now c.loop-v.v c.args.n c.loop-v.marks c.loop-v-test.false);
      new = c.loop-v.invariant.new;
    }
