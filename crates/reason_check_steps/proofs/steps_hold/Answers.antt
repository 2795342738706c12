use mathlib.Core.Path.{refl, sym, ap, ◌∙◌}
use mathlib.Core.Bool.{not}
use native.Mathlib.Omega.{arith}
use lib.ListN.{get_or}
use Rattle.theory.specs.Origins.{chosen}
use Rattle.theory.proofs.Inside.{at_member}
use Rattle.reason_check_steps.proofs.Steps.{path_ends, repeat_taken, unchosen_passed, step_made, step_not_made, words_end}
use Rattle.reason_check_steps.proofs.steps_hold.Goals as goal

pub steps-init : goal.steps-init
steps-init c = (refl, omega arith, refl)

pub loop-j-init : goal.loop-j-init
loop-j-init c =
    (c.steps.invariant.0, omega arith, refl)

pub is_chosen-requires : goal.is_chosen-requires
is_chosen-requires c =
    (c.requires.net.legal (get_or c.args.words.now c.loop-j.j 0) (at_member c.args.words.now c.loop-j.j (omega arith))).origin

pub loop-j-preserved-else-makes_step : goal.loop-j-preserved-else-makes_step
loop-j-preserved-else-makes_step c =
    let passed = step_not_made c.args.set c.args.o c.args.k c.args.words.now c.args.list.now c.steps.i c.loop-j.j c.loop-j.invariant.2 (omega arith) c.is_chosen.ensures c.if-is_chosen.true c.plain_of-plain.ensures c.makes_step.ensures c.if-makes_step.false in
    (c.loop-j.invariant.0, omega arith, passed)

pub loop-j-preserved : goal.loop-j-preserved
loop-j-preserved c =
    let passed = unchosen_passed c.args.set c.args.o c.args.k c.args.words.now c.args.list.now c.steps.i c.loop-j.j c.loop-j.invariant.2 (omega arith) c.is_chosen.ensures c.if-is_chosen.false in
    (c.loop-j.invariant.0, omega arith, passed)

pub steps-preserved-then-makes_step : goal.steps-preserved-then-makes_step
steps-preserved-then-makes_step c =
    let taken = step_made c.args.set c.args.o c.args.k c.args.words.now c.args.list.now c.steps.i c.loop-j.j c.loop-j.invariant.2 (omega arith) c.is_chosen.ensures c.if-is_chosen.true c.plain_of-plain.ensures c.makes_step.ensures (omega arith) c.if-makes_step.true in
    (c.loop-j.invariant.0, omega arith, c.steps.invariant.2 ∙ taken)

pub steps-preserved : goal.steps-preserved
steps-preserved c =
    let taken = repeat_taken c.args.o c.args.k (chosen c.args.set c.args.words.now) c.args.list.now c.steps.i (omega arith) c.is_repeat.ensures (ap not c.if-not-is_repeat.false) in
    (c.steps.invariant.0, omega arith, c.steps.invariant.2 ∙ taken)

pub returns-after-steps : goal.returns-after-steps
returns-after-steps c =
    c.steps.invariant.0 ∙ sym (c.steps.invariant.2 ∙ path_ends c.args.o c.args.k (chosen c.args.set c.args.words.now) c.args.list.now c.steps.i (omega arith))

pub returns-then-words-j : goal.returns-then-words-j
returns-then-words-j c =
    let ended = words_end c.args.set c.args.o c.args.k c.args.words.now c.args.list.now c.steps.i c.loop-j.j c.loop-j.invariant.2 (omega arith) (omega arith) c.is_repeat.ensures (ap not c.if-not-is_repeat.true) in
    sym (c.steps.invariant.2 ∙ ended)
