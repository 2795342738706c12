use Prim.Native.Nat.{ℕ}
use native.Mathlib.Omega.{arith}
use lib.ListN.{length-replicate}
use Rattle.text_field.proofs.Writing.{wrote_as}
use Rattle.why_reason.specs.Told.{lines_room}
use Rattle.why_reason.proofs.Printing.{found_ready, told_done, told_nothing}
use Rattle.why_reason.proofs.put_why.Goals as goal

pub put_told-requires : goal.put_told-requires
put_told-requires c =
    let ready = found_ready c.args.o c.args.k c.args.words.now c.args.set c.args.x c.args.y c.args.sign c.explain-found.ensures (omega (arith, c.explain-found.auto.lines, length-replicate {A = ℕ} lines_room 0)) c.in-Ok.is in
    record {
      places = (ready.inside, ready.few);
      lines = ready.printable;
      room = c.requires;
    }

pub returns-in-Ok : goal.returns-in-Ok
returns-in-Ok c =
    (wrote_as (told_done c.args.o c.args.k c.args.words.now c.args.set c.args.x c.args.y c.args.sign c.explain-found.ensures c.args.told c.in-Ok.is) c.put_told.ensures.0, c.put_told.ensures.1)

pub returns-in-Err : goal.returns-in-Err
returns-in-Err c =
    (told_nothing c.args.o c.args.k c.args.words.now c.args.set c.args.x c.args.y c.args.sign c.explain-found.ensures c.args.told c.args.text.now c.in-Err.is, omega arith)
