use Prim.Native.Nat.{ℕ, ◌+◌, ◌-◌, ◌<◌, ◌≤◌}
use mathlib.Core.Path.{◌∙◌}
use mathlib.Core.List.{List}
use native.Mathlib.Omega.{arith}
use lib.ListN.{length}
use Rattle.scan_pass.specs.Idle.{Idle}
use Rattle.scan_pass.proofs.seek.Goals as goal

-- The loop has come to place i, and k words more do nothing.
gone : (ws m : List ℕ) {from i k end : ℕ} → i < end → end ≤ length ws - 7 → k ≤ 8 → from ≤ i → Idle ws m from i → Idle ws m i (i + k)
    → (from ≤ i + k) × (i + k ≤ length ws) × Idle ws m from (i + k)
gone ws m l e h p q r = (omega (arith, p), omega (arith, l, e, h), λ set sign. q set sign ∙ r set sign)

pub returns-then-closed-lt-BLOCK : goal.returns-then-closed-lt-BLOCK
returns-then-closed-lt-BLOCK c =
    let g = gone c.args.pass.now.words.now c.args.marks.now c.loop-i-test.true c.requires.blocks.1 c.closed_words-closed.ensures.upper_bound c.loop-i.invariant.0 c.loop-i.invariant.2 c.closed_words-closed.ensures.idle in
    record {
      idle = g.2;
      lower_bound = (g.0, g.1);
    }

pub loop-i-preserved : goal.loop-i-preserved
loop-i-preserved c =
    gone c.args.pass.now.words.now c.args.marks.now c.loop-i-test.true c.requires.blocks.1 c.closed_words-closed.ensures.upper_bound c.loop-i.invariant.0 c.loop-i.invariant.2 c.closed_words-closed.ensures.idle
