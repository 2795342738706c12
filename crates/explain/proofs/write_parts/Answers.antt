-- Each return is one way.
use mathlib.Core.Path.{sym, ap, ◌∙◌}
use lib.ListN.{length, get_or, drop}
use Rattle.explain_line.specs.Blocks.{put_lines}
use native.Mathlib.Omega.{arith}
use Rattle.explain.proofs.Ways.{rise_room, derive_rise, derive_straight, derive_turned}
use Rattle.explain.proofs.write_parts.Goals as goal

pub write_rise-requires : goal.write_rise-requires
write_rise-requires c =
    record {
      known = c.requires.known;
      some = c.requires.first;
      room = rise_room c.args.o c.args.set c.args.words.now c.args.part.now c.args.second.now c.requires.first.0 c.if-second-eq0.true c.requires.room;
    }

pub write_sink-requires : goal.write_sink-requires
write_sink-requires c =
    let way = derive_straight c.args.o c.args.set c.args.words.now (get_or c.args.part.now 0 0) (drop 1 c.args.part.now) c.args.second.now c.if-second-eq0.false (sym c.is_straight.ensures ∙ c.if-is_straight.true) in
    record {
      known = c.requires.known;
      some = c.requires.first;
      more = (omega (arith, c.if-second-eq0.false), c.requires.second);
      room = omega (arith, c.requires.room, ap length way);
    }

pub write_swing-requires : goal.write_swing-requires
write_swing-requires c =
    let way = derive_turned c.args.o c.args.set c.args.words.now (get_or c.args.part.now 0 0) (drop 1 c.args.part.now) c.args.second.now c.if-second-eq0.false (sym c.is_straight.ensures ∙ c.if-is_straight.false) in
    record {
      known = c.requires.known;
      some = c.requires.first;
      more = (omega (arith, c.if-second-eq0.false), c.requires.second);
      room = omega (arith, c.requires.room, ap length way);
    }

pub returns-then-second-eq0 : goal.returns-then-second-eq0
returns-then-second-eq0 c =
    c.write_rise.ensures ∙ ap (put_lines c.args.list.now 0) (sym (derive_rise c.args.o c.args.set c.args.words.now (get_or c.args.part.now 0 0) (drop 1 c.args.part.now) c.args.second.now c.if-second-eq0.true))

pub returns-then-is_straight : goal.returns-then-is_straight
returns-then-is_straight c =
    c.write_sink.ensures ∙ ap (put_lines c.args.list.now 0) (sym (derive_straight c.args.o c.args.set c.args.words.now (get_or c.args.part.now 0 0) (drop 1 c.args.part.now) c.args.second.now c.if-second-eq0.false (sym c.is_straight.ensures ∙ c.if-is_straight.true)))

pub returns-else-is_straight : goal.returns-else-is_straight
returns-else-is_straight c =
    c.write_swing.ensures ∙ ap (put_lines c.args.list.now 0) (sym (derive_turned c.args.o c.args.set c.args.words.now (get_or c.args.part.now 0 0) (drop 1 c.args.part.now) c.args.second.now c.if-second-eq0.false (sym c.is_straight.ensures ∙ c.if-is_straight.false)))
