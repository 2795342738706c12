-- The two passes are the round, and the second is left out only where its commands are quiet.
use mathlib.Core.Path.{◌≡◌, ap}
use mathlib.Core.Bool.{false, not, ◌&&◌, ◌||◌}
use Rattle.theory.specs.Marks.{has}
use Rattle.scan_lanes.specs.Passes.{is_commands}
use Rattle.scan_lanes.proofs.Machine.{puts_is}
use Rattle.scan_round.proofs.Turns.{ran_room, ran_written, round_passed, round_run}
use Rattle.scan_round.proofs.round.Goals as goal

pub run_is-new-requires : goal.run_is-new-requires
run_is-new-requires c =
    record {
      room = c.requires.room;
      written = c.requires.written;
    }

pub returns-then-not-first-came : goal.returns-then-not-first-came
returns-then-not-first-came c =
    let idle : ((c.args.first || has 6 c.run_is-new.result) && c.args.plan.now.signs.isnts) ≡ false = cc in
    let t =
    round_passed c.args.plan.now.n c.args.plan.now.set c.args.plan.now.words.now c.args.marks.now c.args.plan.now.inside c.requires.room c.run_is-new.new.marks c.run_is-new.ensures.marks_after c.run_is-new.result c.run_is-new.ensures.decides
    c.args.first c.args.plan.now.signs.isnts c.args.plan.now.isnts c.requires.passed c.run_is-new.ensures.v_value (ap not idle) in
    record { marks_after = t.0; set = t.1.0; quiet = t.1.1 }

pub run_isnt-crossed-requires : goal.run_isnt-crossed-requires
run_isnt-crossed-requires c =
    record {
      room = ran_room c.args.plan.now.n c.args.plan.now.set c.args.plan.now.words.now c.args.marks.now c.args.plan.now.inside c.requires.room is_commands puts_is c.run_is-new.new.marks c.run_is-new.ensures.marks_after;
      written = ran_written c.args.plan.now.n c.args.plan.now.set c.args.plan.now.words.now c.args.marks.now c.args.plan.now.inside c.requires.room is_commands puts_is c.run_is-new.new.marks c.run_is-new.ensures.marks_after;
    }

pub returns : goal.returns
returns c =
    let t =
    round_run c.args.plan.now.n c.args.plan.now.set c.args.plan.now.words.now c.args.marks.now c.args.plan.now.inside c.requires.room c.run_is-new.new.marks c.run_is-new.ensures.marks_after c.run_is-new.result c.run_is-new.ensures.decides
    c.run_isnt-crossed.new.marks c.run_isnt-crossed.result c.run_isnt-crossed.ensures.marks_after c.run_isnt-crossed.ensures.decides in
    record { marks_after = t.0; set = t.1.0; quiet = t.1.1 }
