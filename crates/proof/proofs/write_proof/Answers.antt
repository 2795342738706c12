use Rattle.std.proofs.lemmas.Result.{err_from_is_err_and}
use mathlib.Core.Path.{refl, sym}
use Rattle.proof.proofs.AfterReason.{answered, done_ready, ready_room, ready_length, ready_put}
use Rattle.proof.proofs.write_proof.Goals as goal

pub slice_bounds-path-end : goal.slice_bounds-path-end
slice_bounds-path-end c =
    let r = done_ready c.args.o c.args.k c.args.words.now c.args.set c.args.x c.args.y c.args.sign c.args.scratch.now c.args.list.now _ refl _ _ _ _ c.in_ok-places.ensures refl in
    ready_room c.args.o c.args.k c.args.words.now c.args.set c.args.x c.args.y c.args.sign c.args.scratch.now c.args.list.now _ refl _ _ r

pub slice_bounds-put_proof-end : goal.slice_bounds-put_proof-end
slice_bounds-put_proof-end c =
    let r = done_ready c.args.o c.args.k c.args.words.now c.args.set c.args.x c.args.y c.args.sign c.args.scratch.now c.args.list.now _ refl _ _ _ _ c.in_ok-places.ensures refl in
    sym (ready_length c.args.o c.args.k c.args.words.now c.args.set c.args.x c.args.y c.args.sign c.args.scratch.now c.args.list.now _ refl _ _ r)

pub put_proof-requires : goal.put_proof-requires
put_proof-requires c =
    let r = done_ready c.args.o c.args.k c.args.words.now c.args.set c.args.x c.args.y c.args.sign c.args.scratch.now c.args.list.now _ refl _ _ _ _ c.in_ok-places.ensures refl in
    let p = ready_put c.args.o c.args.k c.args.words.now c.args.set c.args.x c.args.y c.args.sign c.args.scratch.now c.args.list.now _ refl _ _ r in record { entered = p.0; room = p.1 }

pub returns-in_err-places : goal.returns-in_err-places
returns-in_err-places c =
    let p = err_from_is_err_and c.from_residual.result c.from_residual.ensures.1 in
    rw (p.1, p.2)
    (answered c.args.o c.args.k c.args.words.now c.args.set c.args.x c.args.y c.args.sign c.args.scratch.now c.args.list.now _ refl _ _ _ c.in_err-places.ensures _ refl refl)

pub returns : goal.returns
returns c =
    answered c.args.o c.args.k c.args.words.now c.args.set c.args.x c.args.y c.args.sign c.args.scratch.now c.args.list.now _ refl _ _ _ c.in_ok-places.ensures _ refl (c.put_proof.ensures _)
