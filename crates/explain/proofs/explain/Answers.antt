-- The reason's error is passed on, and from a reason that is found the lines are made.
use Rattle.std.proofs.lemmas.Result.{err_from_is_err_and}
use Rattle.explain.proofs.Found.{found_shaped, by_done, by_error}
use Rattle.explain.proofs.explain.Goals as goal

pub write_found-requires : goal.write_found-requires
write_found-requires c =
    found_shaped c.args.o c.args.k c.args.words.now c.args.set c.args.x c.args.y c.args.sign c.args.scratch.now c.args.reason.now c.args.lines.now c.in_ok-size.ensures

pub returns-in_err-size : goal.returns-in_err-size
returns-in_err-size c =
    let p = err_from_is_err_and c.from_residual.result c.from_residual.ensures.1 in
    rw (p.1, p.2)
    (by_error c.args.o c.args.k c.args.words.now c.args.set c.args.x c.args.y c.args.sign c.args.scratch.now c.args.reason.now c.args.lines.now c.in_err-size.ensures)

pub returns : goal.returns
returns c =
    by_done c.args.o c.args.k c.args.words.now c.args.set c.args.x c.args.y c.args.sign c.args.scratch.now c.args.reason.now c.args.lines.now c.in_ok-size.ensures c.write_found.ensures
