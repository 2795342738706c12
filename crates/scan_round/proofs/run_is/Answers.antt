-- The pass over "is", folded, is the first three commands of a round.
use Rattle.scan_round.proofs.Running.{ran_is}
use Rattle.scan_round.proofs.run_is.Goals as goal

pub returns : goal.returns
returns c =
    let t =
    ran_is c.args.plan.now.n c.args.plan.now.set c.args.plan.now.words.now c.args.marks.now c.args.plan.now.inside c.requires.room c.run_pass.new.marks c.fold_is.new.marks c.fold_is.result c.requires.written
    c.run_pass.ensures c.fold_is.ensures.marks_after c.fold_is.ensures.by_index in
    record { marks_after = t.0; decides = t.1.0; v_value = t.1.1 }
