-- Each return is one clause over the places found.
use native.Mathlib.Omega.{arith}
use lib.ListN.{get_or}
use Rattle.theory.specs.Words.{sign_at}
use Rattle.theory.specs.Reasons.{never}
use Rattle.theory.specs.Origins.{chosen}
use Rattle.reason_search.proofs.Opening.{at_place}
use Rattle.reason.proofs.Written.{count_most, rest_room, from_unsupported, from_short, from_done}
use Rattle.reason.proofs.write_reason.Goals as goal

pub returns-then-far : goal.returns-then-far
returns-then-far c =
    from_unsupported c.args.n (sign_at c.args.sign) (chosen c.args.set c.args.words.now) c.args.x c.args.places.now c.args.list.now (omega (arith, c.requires.room, c.requires.start)) c.if-far.true

pub returns-then-list-size : goal.returns-then-list-size
returns-then-list-size c =
    from_short c.args.n (sign_at c.args.sign) (chosen c.args.set c.args.words.now) c.args.x c.args.places.now c.args.list.now (omega (arith, c.requires.room, c.requires.start)) c.if-far.false c.if-list-size.true

pub write_nodes-count-requires : goal.write_nodes-count-requires
write_nodes-count-requires c =
    let e = at_place c.args.places.now c.args.x never 0 (omega (arith, c.requires.room, c.requires.start)) in
    let small = c.shared_slice_known-3-1.given c.args.x in
    record {
      net = c.requires.net;
      room = c.requires.room;
      leads = c.requires.leads;
      start = (omega (arith, c.requires.start), omega arith);
      list = rest_room c.args.list.now (get_or c.args.places.now c.args.x never) (omega arith);
    }

pub overflow_add-count : goal.overflow_add-count
overflow_add-count c =
    let small = c.shared_slice_known-3-1.given c.args.x in
    let most = count_most c.args.n (sign_at c.args.sign) (chosen c.args.set c.args.words.now) c.args.x c.args.places.now c.args.list.now (omega (arith, c.requires.room, c.requires.start)) c.write_nodes-count.ensures.value in
    omega arith

pub overflow_cast-count : goal.overflow_cast-count
overflow_cast-count c =
    let small = c.shared_slice_known-3-1.given c.args.x in
    let most = count_most c.args.n (sign_at c.args.sign) (chosen c.args.set c.args.words.now) c.args.x c.args.places.now c.args.list.now (omega (arith, c.requires.room, c.requires.start)) c.write_nodes-count.ensures.value in
    omega arith

pub overflow_sub-links : goal.overflow_sub-links
overflow_sub-links c =
    let small = c.shared_slice_known-3-1.given c.args.x in
    let most = count_most c.args.n (sign_at c.args.sign) (chosen c.args.set c.args.words.now) c.args.x c.args.places.now c.args.list.now (omega (arith, c.requires.room, c.requires.start)) c.write_nodes-count.ensures.value in
    omega arith

pub overflow_cast-links-2 : goal.overflow_cast-links-2
overflow_cast-links-2 c =
    let small = c.shared_slice_known-3-1.given c.args.x in
    let most = count_most c.args.n (sign_at c.args.sign) (chosen c.args.set c.args.words.now) c.args.x c.args.places.now c.args.list.now (omega (arith, c.requires.room, c.requires.start)) c.write_nodes-count.ensures.value in
    omega arith

pub returns : goal.returns
returns c =
    from_done c.args.n (sign_at c.args.sign) (chosen c.args.set c.args.words.now) c.args.x c.args.places.now c.args.list.now (omega (arith, c.requires.room, c.requires.start)) c.if-far.false c.if-list-size.false c.write_nodes-count.ensures.value c.write_nodes-count.ensures.list_after c.write_head.ensures
