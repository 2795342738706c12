use mathlib.Core.Path.{refl, sym, ◌∙◌}
use mathlib.Core.List.{map}
use Rattle.theory.specs.Origins.{chosen}
use Rattle.unit_program.specs.Programs.{decode}
use Rattle.unit_run.proofs.Running.{loop_spent, loop_last, loop_fewer, loop_go}
use Rattle.unit_run.proofs.run_loop.Goals as goal

pub loop-stood-init : goal.loop-stood-init
loop-stood-init c = (refl, refl)

pub run_pass-stood-requires : goal.run_pass-stood-requires
run_pass-stood-requires c =
    record {
      inside = c.requires.inside;
      few = c.requires.few;
      size = c.loop-stood.invariant.0 ∙ c.requires.size;
    }

pub returns-then-not-runs : goal.returns-then-not-runs
returns-then-not-runs c =
    loop_spent (chosen c.args.set c.args.words.now) (map (decode c.args.n) c.args.program.now) c.loop-stood.left c.loop-stood.marks c.run_pass-stood.ensures c.if-not-runs.true ∙ sym c.loop-stood.invariant.1

pub returns-then-not-fresh : goal.returns-then-not-fresh
returns-then-not-fresh c =
    loop_last (chosen c.args.set c.args.words.now) (map (decode c.args.n) c.args.program.now) c.loop-stood.left c.loop-stood.marks c.run_pass-stood.ensures c.if-not-runs.false c.if-not-fresh.true ∙ sym c.loop-stood.invariant.1

pub loop-stood-smaller : goal.loop-stood-smaller
loop-stood-smaller c =
    loop_fewer (chosen c.args.set c.args.words.now) (map (decode c.args.n) c.args.program.now) c.loop-stood.left c.loop-stood.marks c.run_pass-stood.ensures c.if-not-runs.false c.if-not-fresh.false

pub loop-stood-preserved : goal.loop-stood-preserved
loop-stood-preserved c =
    (c.run_pass-stood.auto.marks ∙ c.loop-stood.invariant.0, c.loop-stood.invariant.1 ∙ loop_go (chosen c.args.set c.args.words.now) (map (decode c.args.n) c.args.program.now) c.loop-stood.left c.loop-stood.marks c.run_pass-stood.ensures c.if-not-runs.false c.if-not-fresh.false)
