use mathlib.Core.Path.{refl, sym, ◌∙◌}
use native.Mathlib.Omega.{arith}
use Rattle.theory.specs.Growth.{kept}
use Rattle.theory.proofs.machine.Growth.{set_then}
use Rattle.theory.proofs.origins.Statements.{inside_from_at}
use Rattle.unit_link.proofs.InPlace.{in_place_go, in_place_end}
use Rattle.unit_link.proofs.run_in_place.Goals as goal

pub loop-word-init : goal.loop-word-init
loop-word-init c = record { long = refl; left = refl; new = kept }

pub link_here-changed-requires : goal.link_here-changed-requires
link_here-changed-requires c =
    record {
      markers = c.requires.markers;
      ends = inside_from_at c.args.words.now c.requires.inside c.loop-word.word-index c.loop-word-test.true;
      room = omega (arith, c.requires.room, c.loop-word.invariant.long);
    }

pub loop-word-preserved : goal.loop-word-preserved
loop-word-preserved c = record {
  long = c.link_here-changed.auto.marks ∙ c.loop-word.invariant.long;
  left = c.loop-word.invariant.left ∙ in_place_go c.args.set c.args.c c.args.words.now c.loop-word.word-index c.loop-word.marks c.loop-word-test.true c.link_here-changed.ensures.done;
  new = set_then c.loop-word.invariant.new c.link_here-changed.ensures.new;
}

pub returns : goal.returns
returns c =
    record {
      done = sym (c.loop-word.invariant.left ∙ in_place_end c.args.set c.args.c c.args.words.now c.loop-word.word-index c.loop-word.marks c.loop-word-test.false);
      new = c.loop-word.invariant.new;
    }
