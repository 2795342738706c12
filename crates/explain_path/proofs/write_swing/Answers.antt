-- The blocks are written one after another; their sizes add up to the derivation's.
use Prim.Native.Nat.{◌+◌, ◌-◌, ◌*◌}
use mathlib.Core.Path.{refl}
use lib.ListN.{length, get_or}
use native.Mathlib.Omega.{arith}
use Rattle.explain_path.proofs.Written.{cross_few, swing_total, join_total, swing_put}
use Rattle.explain_path.proofs.write_swing.Goals as goal

pub write_climb-requires : goal.write_climb-requires
write_climb-requires c =
    let total = swing_total c.args.set c.args.words.now c.args.list.now c.args.part.now c.args.second.now c.requires.some.0 c.requires.more.0 in
    let few = cross_few c.args.set c.args.words.now (get_or c.args.second.now 0 0) (get_or c.args.part.now (length c.args.part.now - 1) 0) in
    record {
      known = c.requires.known;
      some = c.requires.some;
      room = omega arith;
    }

pub write_cross-size-requires : goal.write_cross-size-requires
write_cross-size-requires c =
    let total = swing_total c.args.set c.args.words.now c.args.list.now c.args.part.now c.args.second.now c.requires.some.0 c.requires.more.0 in
    let few = cross_few c.args.set c.args.words.now (get_or c.args.second.now 0 0) (get_or c.args.part.now (length c.args.part.now - 1) 0) in
    record {
      known = c.requires.known;
      room = omega (arith, c.climb_size-f.ensures, c.write_climb.auto.list);
      number = omega (arith, c.climb_size-f.ensures, c.requires.some);
    }

pub overflow_add-n : goal.overflow_add-n
overflow_add-n c =
    let total = swing_total c.args.set c.args.words.now c.args.list.now c.args.part.now c.args.second.now c.requires.some.0 c.requires.more.0 in
    let few = cross_few c.args.set c.args.words.now (get_or c.args.second.now 0 0) (get_or c.args.part.now (length c.args.part.now - 1) 0) in
    omega (arith, c.climb_size-f.ensures, c.write_cross-size.ensures.value, c.requires.some)

pub write_steps-requires : goal.write_steps-requires
write_steps-requires c =
    let total = swing_total c.args.set c.args.words.now c.args.list.now c.args.part.now c.args.second.now c.requires.some.0 c.requires.more.0 in
    let few = cross_few c.args.set c.args.words.now (get_or c.args.second.now 0 0) (get_or c.args.part.now (length c.args.part.now - 1) 0) in
    record {
      known = c.requires.known;
      some = c.requires.more.0;
      room = omega (arith, c.write_cross-size.auto.list, c.write_climb.auto.list);
      number = (omega arith, omega (arith, c.requires.some, c.requires.more));
    }

pub overflow_add-m : goal.overflow_add-m
overflow_add-m c =
    let total = swing_total c.args.set c.args.words.now c.args.list.now c.args.part.now c.args.second.now c.requires.some.0 c.requires.more.0 in
    let few = cross_few c.args.set c.args.words.now (get_or c.args.second.now 0 0) (get_or c.args.part.now (length c.args.part.now - 1) 0) in
    omega (arith, c.climb_size-f.ensures, c.write_cross-size.ensures.value, c.requires.some, c.requires.more)

pub overflow_sub-m-2 : goal.overflow_sub-m-2
overflow_sub-m-2 c =
    let total = swing_total c.args.set c.args.words.now c.args.list.now c.args.part.now c.args.second.now c.requires.some.0 c.requires.more.0 in
    let few = cross_few c.args.set c.args.words.now (get_or c.args.second.now 0 0) (get_or c.args.part.now (length c.args.part.now - 1) 0) in
    omega (arith, c.write_cross-size.ensures.value)

pub put_line-requires : goal.put_line-requires
put_line-requires c =
    let total = swing_total c.args.set c.args.words.now c.args.list.now c.args.part.now c.args.second.now c.requires.some.0 c.requires.more.0 in
    let few = cross_few c.args.set c.args.words.now (get_or c.args.second.now 0 0) (get_or c.args.part.now (length c.args.part.now - 1) 0) in
    record {
      room = omega (arith, c.write_steps.auto.list, c.write_cross-size.auto.list, c.write_climb.auto.list);
      sign = omega arith;
    }

pub overflow_add-m-2 : goal.overflow_add-m-2
overflow_add-m-2 c =
    let total = swing_total c.args.set c.args.words.now c.args.list.now c.args.part.now c.args.second.now c.requires.some.0 c.requires.more.0 in
    let few = cross_few c.args.set c.args.words.now (get_or c.args.second.now 0 0) (get_or c.args.part.now (length c.args.part.now - 1) 0) in
    omega (arith, c.climb_size-f.ensures, c.write_cross-size.ensures.value, c.requires.some, c.requires.more)

pub write_join-requires : goal.write_join-requires
write_join-requires c =
    let total = swing_total c.args.set c.args.words.now c.args.list.now c.args.part.now c.args.second.now c.requires.some.0 c.requires.more.0 in
    let few = cross_few c.args.set c.args.words.now (get_or c.args.second.now 0 0) (get_or c.args.part.now (length c.args.part.now - 1) 0) in
    let joined = join_total c.args.part.now (get_or c.args.second.now (length c.args.second.now - 1) 0) c.climb_size-f.result (c.climb_size-f.result + c.write_cross-size.result + 2 * (length c.args.second.now - 1) + 1) c.requires.some.0 in
    record {
      some = c.requires.some;
      room = omega (arith, c.put_line.auto.list, c.write_steps.auto.list, c.write_cross-size.auto.list, c.write_climb.auto.list);
      number = (omega arith, omega (arith, c.requires.some, c.requires.more), omega (arith, c.requires.some));
    }

pub returns : goal.returns
returns c =
    swing_put c.args.set c.args.words.now c.args.list.now c.args.part.now c.args.second.now c.requires.some.0 c.requires.more.0 c.climb_size-f.ensures c.write_climb.ensures
    c.write_cross-size.ensures.value refl c.write_cross-size.ensures.list_after c.write_steps.ensures c.put_line.ensures c.write_join.ensures.list_after
