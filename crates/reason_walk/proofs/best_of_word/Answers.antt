-- Each return is one kind of word under one sign asked.
use mathlib.Core.List.{List}
use native.Mathlib.Omega.{arith}
use Rattle.theory.specs.Searches.{Arc, next}
use Rattle.reason_search.proofs.WordArcs.{crossed_most}
use Rattle.reason_search.proofs.WordMoves.{ends_inside, word_none, word_along, word_idle, word_across}
use Rattle.reason_walk.proofs.Nearer.{from_elsewhere, next_none, next_two}
use Rattle.reason_walk.proofs.best_of_word.Goals as goal

pub returns-then-tail-state : goal.returns-then-tail-state
returns-then-tail-state c =
    word_idle (λ (l : List Arc). next l c.args.places.now c.args.state c.args.i) (next_none c.args.places.now c.args.state c.args.i) (next_two c.args.places.now c.args.state c.args.i) c.args.set c.args.n c.args.sign c.args.word c.args.best
    c.plain_of-plain.ensures c.tail_of-tail.ensures c.head_of-head.ensures c.if-sign-eq0.true
    (from_elsewhere c.tail_of-tail.result c.head_of-head.result c.args.state c.args.i c.args.best c.args.places.now c.if-tail-state.true)

pub returns-then-word-ne0 : goal.returns-then-word-ne0
returns-then-word-ne0 c =
    word_none (λ (l : List Arc). next l c.args.places.now c.args.state c.args.i) (next_none c.args.places.now c.args.state c.args.i) (next_two c.args.places.now c.args.state c.args.i) c.args.set c.args.n c.args.sign c.args.word c.args.best
    c.plain_of-plain.ensures c.tail_of-tail.ensures c.head_of-head.ensures c.if-sign-eq0.true c.if-word-ne0.true

pub better_of-requires : goal.better_of-requires
better_of-requires c =
    let e = ends_inside c.requires.ends c.plain_of-plain.ensures c.tail_of-tail.ensures c.head_of-head.ensures in
    record {
      origin = c.requires.ends.origin;
      inside = omega (arith, e.1, c.requires.room);
    }

pub returns-then-sign-eq0 : goal.returns-then-sign-eq0
returns-then-sign-eq0 c =
    word_along (λ (l : List Arc). next l c.args.places.now c.args.state c.args.i) (next_none c.args.places.now c.args.state c.args.i) (next_two c.args.places.now c.args.state c.args.i) c.args.set c.args.n c.args.sign c.args.word c.args.best
    c.plain_of-plain.ensures c.tail_of-tail.ensures c.head_of-head.ensures c.if-sign-eq0.true c.if-word-ne0.false c.better_of.ensures

pub overflow_add-head : goal.overflow_add-head
overflow_add-head c =
    let e = ends_inside c.requires.ends c.plain_of-plain.ensures c.tail_of-tail.ensures c.head_of-head.ensures in
    omega (arith, e.1, crossed_most c.args.word c.args.n, c.requires.few)

pub better_of-there-requires : goal.better_of-there-requires
better_of-there-requires c =
    let e = ends_inside c.requires.ends c.plain_of-plain.ensures c.tail_of-tail.ensures c.head_of-head.ensures in
    record {
      origin = c.requires.ends.origin;
      inside = omega (arith, e.1, crossed_most c.args.word c.args.n, c.requires.room);
    }

pub returns : goal.returns
returns c =
    word_across (λ (l : List Arc). next l c.args.places.now c.args.state c.args.i) (next_none c.args.places.now c.args.state c.args.i) (next_two c.args.places.now c.args.state c.args.i) c.args.set c.args.n c.args.sign c.args.word c.args.best
    c.plain_of-plain.ensures c.tail_of-tail.ensures c.head_of-head.ensures c.if-sign-eq0.false c.better_of-there.ensures c.better_of-2.ensures
