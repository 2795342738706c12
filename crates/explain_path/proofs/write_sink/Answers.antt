-- The blocks are written one after another; their sizes add up to the derivation's.
use Prim.Native.Nat.{◌+◌, ◌-◌}
use lib.ListN.{length, get_or}
use native.Mathlib.Omega.{arith}
use Rattle.explain_path.proofs.Written.{cross_few, sink_total, join_total, sink_put}
use Rattle.explain_path.proofs.write_sink.Goals as goal

pub write_climb-requires : goal.write_climb-requires
write_climb-requires c =
    let total = sink_total c.args.set c.args.words.now c.args.list.now c.args.part.now c.args.second.now c.requires.some.0 c.requires.more.0 in
    let few = cross_few c.args.set c.args.words.now (get_or c.args.part.now (length c.args.part.now - 1) 0) (get_or c.args.second.now 0 0) in
    record {
      known = c.requires.known;
      some = c.requires.some;
      room = omega arith;
    }

pub write_cross-size-requires : goal.write_cross-size-requires
write_cross-size-requires c =
    let total = sink_total c.args.set c.args.words.now c.args.list.now c.args.part.now c.args.second.now c.requires.some.0 c.requires.more.0 in
    let few = cross_few c.args.set c.args.words.now (get_or c.args.part.now (length c.args.part.now - 1) 0) (get_or c.args.second.now 0 0) in
    record {
      known = c.requires.known;
      room = omega (arith, c.climb_size-f.ensures, c.write_climb.auto.list);
      number = omega (arith, c.climb_size-f.ensures, c.requires.some);
    }

pub overflow_add-f : goal.overflow_add-f
overflow_add-f c =
    let total = sink_total c.args.set c.args.words.now c.args.list.now c.args.part.now c.args.second.now c.requires.some.0 c.requires.more.0 in
    let few = cross_few c.args.set c.args.words.now (get_or c.args.part.now (length c.args.part.now - 1) 0) (get_or c.args.second.now 0 0) in
    omega (arith, c.climb_size-f.ensures, c.write_cross-size.ensures.value, c.requires.some)

pub write_join-n-requires : goal.write_join-n-requires
write_join-n-requires c =
    let total = sink_total c.args.set c.args.words.now c.args.list.now c.args.part.now c.args.second.now c.requires.some.0 c.requires.more.0 in
    let few = cross_few c.args.set c.args.words.now (get_or c.args.part.now (length c.args.part.now - 1) 0) (get_or c.args.second.now 0 0) in
    let joined = join_total c.args.part.now (get_or c.args.second.now 0 0) c.climb_size-f.result (c.climb_size-f.result + c.write_cross-size.result) c.requires.some.0 in
    record {
      some = c.requires.some;
      room = omega (arith, c.write_cross-size.auto.list, c.write_climb.auto.list);
      number = (omega arith, omega (arith, c.requires.some), omega (arith, c.requires.some));
    }

pub write_steps-requires : goal.write_steps-requires
write_steps-requires c =
    let total = sink_total c.args.set c.args.words.now c.args.list.now c.args.part.now c.args.second.now c.requires.some.0 c.requires.more.0 in
    let few = cross_few c.args.set c.args.words.now (get_or c.args.part.now (length c.args.part.now - 1) 0) (get_or c.args.second.now 0 0) in
    let joined = join_total c.args.part.now (get_or c.args.second.now 0 0) c.climb_size-f.result (c.climb_size-f.result + c.write_cross-size.result) c.requires.some.0 in
    record {
      known = c.requires.known;
      some = c.requires.more.0;
      room = omega (arith, c.write_join-n.auto.list, c.write_cross-size.auto.list, c.write_climb.auto.list);
      number = (omega arith, omega (arith, c.requires.some, c.requires.more));
    }

pub returns : goal.returns
returns c =
    sink_put c.args.set c.args.words.now c.args.list.now c.args.part.now c.args.second.now c.requires.some.0 c.requires.more.0 c.climb_size-f.ensures c.write_climb.ensures
    c.write_cross-size.ensures.value c.write_join-n.ensures.value c.write_cross-size.ensures.list_after c.write_join-n.ensures.list_after c.write_steps.ensures
