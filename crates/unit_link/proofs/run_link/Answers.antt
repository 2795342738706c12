use mathlib.Core.Path.{refl}
use native.Mathlib.Omega.{arith}
use Rattle.theory.specs.Origins.{chosen}
use Rattle.theory.proofs.origins.Statements.{chosen_inside}
use Rattle.unit_link.proofs.InPlace.{in_place_ran}
use Rattle.unit_link.proofs.Spreading.{spread_command}
use Rattle.unit_link.proofs.run_link.Goals as goal

pub run_in_place-requires : goal.run_in_place-requires
run_in_place-requires c =
    record {
      markers = c.requires.markers;
      inside = c.requires.inside;
      room = omega (arith, c.requires.size);
    }

pub returns-then-test-put : goal.returns-then-test-put
returns-then-test-put c =
    record {
      done = in_place_ran c.args.c c.if-test-put.true c.args.n (chosen c.args.set c.args.words.now) c.args.marks.now (chosen_inside c.args.set c.args.words.now c.requires.inside)
          (omega (arith, c.requires.size)) c.run_in_place.ensures.done;
      new = c.run_in_place.ensures.new;
    }

pub gather_nodes-requires : goal.gather_nodes-requires
gather_nodes-requires c =
    record {
      markers = c.requires.markers;
      inside = c.requires.inside;
      few = c.requires.few;
      room = omega (arith, c.requires.size);
      size = refl;
    }

pub returns : goal.returns
returns c =
    record {
      done = spread_command c.args.n c.requires.few c.args.c c.requires.markers.put_in (chosen c.args.set c.args.words.now) (chosen_inside c.args.set c.args.words.now c.requires.inside)
          c.args.marks.now c.requires.size c.gather_nodes.ensures c.spread_marks.ensures.done;
      new = c.spread_marks.ensures.new;
    }
