use mathlib.Core.Path.{◌≡◌}
use lib.ListN.{length, drop}
use Rattle.theory.specs.Growth.{Set}
use Rattle.theory.specs.Origins.{chosen}
use Rattle.unit_link.specs.InPlace.{in_place}
use Rattle.unit_link.proofs.run_in_place.Given as goal

abbrev pub invariant-loop-word : goal.invariant-loop-word
invariant-loop-word l =
    record {
      long : length l.marks ≡ length l.initial.marks;
      left : in_place l.c (chosen l.set l.words) l.initial.marks ≡ in_place l.c (chosen l.set (drop l.word-index l.words)) l.marks;
      new : Set l.changed l.initial.marks l.marks;
    }
