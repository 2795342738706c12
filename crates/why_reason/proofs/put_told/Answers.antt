use mathlib.Core.Path.{sym}
use native.Mathlib.Omega.{arith}
use lib.Seq.{length-take-le}
use Rattle.why_reason.proofs.Printing.{told_room}
use Rattle.why_reason.proofs.put_told.Goals as goal

pub slice_bounds-put_derivation-end : goal.slice_bounds-put_derivation-end
slice_bounds-put_derivation-end c =
    sym (length-take-le c.args.places c.args.lines.now c.requires.places.0)

pub put_derivation-requires : goal.put_derivation-requires
put_derivation-requires c =
    let long = length-take-le c.args.places c.args.lines.now c.requires.places.0 in
    record {
      room = (omega (arith, long, c.requires.places.1), omega (arith, long, c.requires.places.1, c.requires.room));
      lines = c.requires.lines;
    }

pub returns : goal.returns
returns c =
    (c.put_derivation.ensures, omega (arith, c.put_derivation.ensures.size, told_room c.args.told c.args.words.now c.args.lines.now c.args.places c.requires.places.1))
