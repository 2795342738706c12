-- The link is found, or the one that stands the other way round is turned.
use mathlib.Core.Path.{sym}
use native.Mathlib.Omega.{arith}
use Rattle.explain_line.proofs.Stored.{crossed_size, crossed_put, turned_size, turned_put}
use Rattle.explain_line.proofs.write_cross.Goals as goal

pub put_line-requires : goal.put_line-requires
put_line-requires c =
    record {
      room = omega (arith, c.requires.room, crossed_size c.args.set c.args.words.now c.args.list.now c.args.n c.args.u c.args.v c.find_link-place.ensures.value c.if-place-words.true);
      sign = omega arith;
    }

pub returns-then-place-words : goal.returns-then-place-words
returns-then-place-words c =
    record {
      value = sym (crossed_size c.args.set c.args.words.now c.args.list.now c.args.n c.args.u c.args.v c.find_link-place.ensures.value c.if-place-words.true);
      list_after = crossed_put c.args.set c.args.words.now c.args.list.now c.args.n c.args.u c.args.v c.find_link-place.ensures.value c.if-place-words.true c.put_line.ensures;
    }

pub put_link-requires : goal.put_link-requires
put_link-requires c =
    record {
      known = c.requires.known;
      room = omega (arith, c.requires.room, turned_size c.args.set c.args.words.now c.args.list.now c.args.n c.args.u c.args.v c.find_link-place.ensures.value c.if-place-words.false);
      sign = omega arith;
    }

pub put_line-requires-2 : goal.put_line-requires-2
put_line-requires-2 c =
    record {
      room = omega (arith, c.requires.room, turned_size c.args.set c.args.words.now c.args.list.now c.args.n c.args.u c.args.v c.find_link-place.ensures.value c.if-place-words.false, c.put_link.auto.list);
      sign = omega arith;
    }

pub returns : goal.returns
returns c =
    record {
      value = sym (turned_size c.args.set c.args.words.now c.args.list.now c.args.n c.args.u c.args.v c.find_link-place.ensures.value c.if-place-words.false);
      list_after = turned_put c.args.set c.args.words.now c.args.list.now c.args.n c.args.u c.args.v c.find_link-place.ensures.value c.if-place-words.false c.put_link.ensures c.put_line-2.ensures;
    }
