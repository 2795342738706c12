-- Each return is one kind of word under one sign asked.
use mathlib.Core.Path.{refl}
use native.Mathlib.Omega.{arith}
use Rattle.theory.specs.Searches.{level}
use Rattle.reason_search.proofs.WordArcs.{crossed_most}
use Rattle.reason_search.proofs.WordMoves.{ends_inside, word_none, word_along, word_idle, word_across}
use Rattle.reason_search.proofs.Opening.{not_at_level, not_open, level_none, level_two, kept_then}
use Rattle.reason_search.proofs.open_word.Goals as goal

pub returns-then-places-head : goal.returns-then-places-head
returns-then-places-head c =
    let e = ends_inside c.requires.ends c.plain_of-plain.ensures c.tail_of-tail.ensures c.head_of-head.ensures in record {
      places_after = word_idle (level c.args.i) (level_none c.args.i) (level_two c.args.i) c.args.set c.args.n c.args.sign c.args.word c.args.places.now c.plain_of-plain.ensures c.tail_of-tail.ensures c.head_of-head.ensures c.if-sign-eq0.true
          (not_at_level c.args.i c.tail_of-tail.result c.head_of-head.result c.args.places.now (omega (arith, e.1, c.requires.room)) c.if-places-head.true);
      kept = λ e. refl;
    }

pub returns-then-not-is_open : goal.returns-then-not-is_open
returns-then-not-is_open c =
    record {
      places_after = word_idle (level c.args.i) (level_none c.args.i) (level_two c.args.i) c.args.set c.args.n c.args.sign c.args.word c.args.places.now c.plain_of-plain.ensures c.tail_of-tail.ensures c.head_of-head.ensures c.if-sign-eq0.true
          (not_open c.args.i c.tail_of-tail.result c.head_of-head.result c.args.places.now c.is_open.ensures (c.if-not-is_open.true));
      kept = λ e. refl;
    }

pub returns-then-word-ne0 : goal.returns-then-word-ne0
returns-then-word-ne0 c =
    record {
      places_after = word_none (level c.args.i) (level_none c.args.i) (level_two c.args.i) c.args.set c.args.n c.args.sign c.args.word c.args.places.now c.plain_of-plain.ensures c.tail_of-tail.ensures c.head_of-head.ensures c.if-sign-eq0.true c.if-word-ne0.true;
      kept = λ e. refl;
    }

pub open_state-requires : goal.open_state-requires
open_state-requires c =
    let e = ends_inside c.requires.ends c.plain_of-plain.ensures c.tail_of-tail.ensures c.head_of-head.ensures in
    record {
      small = c.requires.small;
      origin = c.requires.ends.origin;
      inside = (omega (arith, e.0, c.requires.room), omega (arith, e.1, c.requires.room));
    }

pub returns-then-sign-eq0 : goal.returns-then-sign-eq0
returns-then-sign-eq0 c =
    record {
      places_after = word_along (level c.args.i) (level_none c.args.i) (level_two c.args.i) c.args.set c.args.n c.args.sign c.args.word c.args.places.now c.plain_of-plain.ensures c.tail_of-tail.ensures c.head_of-head.ensures c.if-sign-eq0.true c.if-word-ne0.false
          c.open_state.ensures.places_after;
      kept = c.open_state.ensures.kept;
    }

pub overflow_add-head : goal.overflow_add-head
overflow_add-head c =
    let e = ends_inside c.requires.ends c.plain_of-plain.ensures c.tail_of-tail.ensures c.head_of-head.ensures in
    omega (arith, e.1, crossed_most c.args.word c.args.n, c.requires.few)

pub open_state-there-requires : goal.open_state-there-requires
open_state-there-requires c =
    let e = ends_inside c.requires.ends c.plain_of-plain.ensures c.tail_of-tail.ensures c.head_of-head.ensures in record {
      small = c.requires.small;
      origin = c.requires.ends.origin;
      inside = (omega (arith, e.0, c.requires.room), omega (arith, e.1, crossed_most c.args.word c.args.n, c.requires.room));
    }

pub returns : goal.returns
returns c =
    record {
      places_after = word_across (level c.args.i) (level_none c.args.i) (level_two c.args.i) c.args.set c.args.n c.args.sign c.args.word c.args.places.now c.plain_of-plain.ensures c.tail_of-tail.ensures c.head_of-head.ensures c.if-sign-eq0.false
          c.open_state-there.ensures.places_after c.open_state-back.ensures.places_after;
      kept = kept_then c.open_state-there.result c.open_state-back.result c.open_state-there.ensures.kept c.open_state-back.ensures.kept;
    }
