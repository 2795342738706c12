-- One node needs no line; more need one.
use native.Mathlib.Omega.{arith}
use Rattle.explain_path.proofs.Written.{no_join, one_line, join_put}
use Rattle.explain_path.proofs.write_join.Goals as goal

pub returns-then-part-eq1 : goal.returns-then-part-eq1
returns-then-part-eq1 c =
    let both = no_join c.args.list.now c.args.part.now c.args.y c.args.f c.args.n c.if-part-eq1.true in record { value = both.0; list_after = both.1 }

pub put_line-requires : goal.put_line-requires
put_line-requires c =
    record {
      room = omega (arith, c.requires.room, one_line c.args.list.now c.args.part.now c.args.y c.args.f c.args.n c.requires.some.0 c.if-part-eq1.false);
      sign = omega arith;
    }

pub returns : goal.returns
returns c =
    let both = join_put c.args.list.now c.args.part.now c.args.y c.args.f c.args.n c.requires.some.0 c.if-part-eq1.false c.put_line.ensures in record { value = both.0; list_after = both.1 }
