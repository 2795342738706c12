use mathlib.Core.Path.{sym}
use lib.Seq.{length-take-le}
use Rattle.theory.specs.Origins.{chosen}
use Rattle.unit_program.specs.Runs.{stand}
use Rattle.unit.proofs.Outcomes.{program_whole, unit_short, unit_fault, left_most, unit_done_lem, unit_spent}
use Rattle.unit.proofs.run_net.Goals as goal

pub returns-then-marks-n : goal.returns-then-marks-n
returns-then-marks-n c =
    unit_short c.args.n (chosen c.args.set c.args.words.now) c.args.program.now c.args.budget c.args.marks.now c.if-marks-n.true

pub returns-then-place-program : goal.returns-then-place-program
returns-then-place-program c =
    unit_fault c.args.n (chosen c.args.set c.args.words.now) c.args.program.now c.args.budget c.args.marks.now c.if-marks-n.false c.first_fault-place.ensures c.if-place-program.true
    c.told_place.ensures

pub slice_bounds-run_program-end-2 : goal.slice_bounds-run_program-end-2
slice_bounds-run_program-end-2 c =
    sym (length-take-le c.args.n c.args.marks.now c.if-marks-n.false)

pub run_program-stood-requires : goal.run_program-stood-requires
run_program-stood-requires c =
    record {
      inside = c.requires.inside;
      few = c.requires.few;
      size = length-take-le c.args.n c.args.marks.now c.if-marks-n.false;
      sound = program_whole c.args.n c.args.program.now c.first_fault-place.ensures c.if-place-program.false;
    }

pub overflow_sub-count : goal.overflow_sub-count
overflow_sub-count c =
    left_most c.args.n (chosen c.args.set c.args.words.now) c.args.program.now c.args.budget c.args.marks.now c.if-marks-n.false c.first_fault-place.ensures c.if-place-program.false
    (stand c.run_program-stood.result.runs c.run_program-stood.result.left c.run_program-stood.result.fresh c.run_program-stood.new.marks) c.run_program-stood.ensures

pub returns-then-stood : goal.returns-then-stood
returns-then-stood c =
    unit_done_lem c.args.n (chosen c.args.set c.args.words.now) c.args.program.now c.args.budget c.args.marks.now c.if-marks-n.false c.first_fault-place.ensures c.if-place-program.false
    (stand c.run_program-stood.result.runs c.run_program-stood.result.left c.run_program-stood.result.fresh c.run_program-stood.new.marks) c.run_program-stood.ensures c.if-stood.true

pub returns-else-stood : goal.returns-else-stood
returns-else-stood c =
    unit_spent c.args.n (chosen c.args.set c.args.words.now) c.args.program.now c.args.budget c.args.marks.now c.if-marks-n.false c.first_fault-place.ensures c.if-place-program.false
    (stand c.run_program-stood.result.runs c.run_program-stood.result.left c.run_program-stood.result.fresh c.run_program-stood.new.marks) c.run_program-stood.ensures c.if-stood.false
