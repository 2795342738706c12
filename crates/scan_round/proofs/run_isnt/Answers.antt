-- The bytes written for it, the pass over "is not", folded, is the last two commands of a round.
use Rattle.scan_round.proofs.Running.{ran_isnt}
use Rattle.scan_round.proofs.run_isnt.Goals as goal

pub returns : goal.returns
returns c =
    let t =
    ran_isnt c.args.plan.now.n c.args.plan.now.set c.args.plan.now.words.now c.args.marks.now c.args.plan.now.inside c.requires.room c.code_isnt.new.marks c.run_pass.new.marks c.fold_isnt.new.marks
    c.fold_isnt.result c.code_isnt.ensures c.run_pass.ensures c.fold_isnt.ensures.marks_after c.fold_isnt.ensures.by_index in
    record { marks_after = t.0; decides = t.1 }
