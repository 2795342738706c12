use native.Mathlib.Omega.{arith}
use Rattle.theory.specs.Origins.{chosen}
use Rattle.proof.proofs.Putting.{listed_object, listed_kind}
use Rattle.proof.proofs.put_proof.Goals as goal

pub put_object-requires : goal.put_object-requires
put_object-requires c =
    record {
      entered = c.requires.entered;
      room = (c.requires.room.6 c.if-x-o.true, omega arith, omega arith);
    }

pub returns-then-x-o : goal.returns-then-x-o
returns-then-x-o c = λ past.
    listed_object c.args.o c.args.n (chosen c.args.set c.args.words.now) c.args.x c.args.y c.args.sign c.args.path.now past c.args.list.now _ c.if-x-o.true c.requires.room.1 (c.put_object.ensures past)

pub returns : goal.returns
returns c = λ past.
    listed_kind c.args.o c.args.n (chosen c.args.set c.args.words.now) c.args.x c.args.y c.args.sign c.args.path.now past c.args.list.now _ c.if-x-o.false (c.put_kind.ensures past)
