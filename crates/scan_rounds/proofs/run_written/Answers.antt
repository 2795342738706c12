use mathlib.Core.Path.{◌≡◌, refl, sym, ◌∙◌}
use mathlib.Core.Bool.{true, false}
use Prim.Native.Nat.{◌≤◌}
use native.Mathlib.Omega.{arith}
use native.Mathlib.Nat.{sub-zero}
use lib.ListN.{length}
use Rattle.theory_laws.proofs.Booleans.{contradiction}
use Rattle.theory.specs.Marks.{commands}
use Rattle.theory.specs.Origins.{chosen}
use Rattle.theory.proofs.machine.Rounds.{loop_spent}
use Rattle.scan_lanes.specs.Codes.{marks_of}
use Rattle.scan_rounds.proofs.Loop.{after_written, after_quiet, round_last, round_more}
use Rattle.scan_rounds.proofs.run_written.Goals as goal

pub loop-count-init : goal.loop-count-init
loop-count-init c = (refl, rw (sub-zero c.args.budget), c.requires.written, λ h. contradiction (sym h))

pub round-changed-requires : goal.round-changed-requires
round-changed-requires c = record {
  passed = c.loop-count.invariant.3;
  room = omega arith;
  written = c.loop-count.invariant.2;
}

pub returns-then-not-changed : goal.returns-then-not-changed
returns-then-not-changed c =
    let r = c.round-changed in
    let ended : r.result ≡ false = cc in
    c.loop-count.invariant.1
    ∙ round_last c.args.plan.now.n c.args.plan.now.set c.args.plan.now.words.now c.loop-count.marks c.args.plan.now.inside (omega arith) r.new.marks r.ensures.marks_after
    c.loop-count.count c.args.budget (omega arith) r.ensures.set ended

pub loop-count-preserved : goal.loop-count-preserved
loop-count-preserved c =
    let r = c.round-changed in
    let b = r.new.marks in
    let inside = c.args.plan.now.inside in
    let went : r.result ≡ true = cc in
    let room : c.args.plan.now.n ≤ length c.loop-count.marks = omega arith in (
      r.auto.marks ∙ c.loop-count.invariant.0,
      c.loop-count.invariant.1
          ∙ round_more c.args.plan.now.n c.args.plan.now.set c.args.plan.now.words.now c.loop-count.marks inside room b r.ensures.marks_after c.loop-count.count c.args.budget (omega arith)
          r.ensures.set went,
      after_written c.args.plan.now.n c.args.plan.now.set c.args.plan.now.words.now c.loop-count.marks inside room b r.ensures.marks_after,
      λ h. after_quiet c.args.plan.now.n c.args.plan.now.set c.args.plan.now.words.now c.loop-count.marks inside room b r.ensures.marks_after r.ensures.quiet,
    )

pub returns : goal.returns
returns c =
    let m = marks_of c.args.plan.now.n c.loop-count.marks in
    let e : c.loop-count.count ≡ c.args.budget = omega arith in
    rw e at (c.loop-count.invariant.1 ∙ loop_spent commands (chosen c.args.plan.now.set c.args.plan.now.words.now) c.loop-count.count c.args.budget m m (omega arith))
