-- The scan that stands there is kept, and any other is run.
use mathlib.Core.Path.{◌≡◌, refl}
use native.Mathlib.Omega.{arith}
use Rattle.theory.specs.Origins.{chosen}
use Rattle.questions_pair.proofs.Standing.{held_stands}
use Rattle.questions_pair.proofs.hold.Goals as goal

pub returns-then-held-node : goal.returns-then-held-node
returns-then-held-node c =
    let same : c.args.held.node ≡ c.args.x = omega arith in
    record {
      node = same;
      stands = held_stands c.args.n (chosen c.args.set c.args.words.now) c.args.held c.args.marks.now c.args.x same c.requires.node c.requires.known;
      past = refl;
      long = refl;
    }

pub returns : goal.returns
returns c =
    record {
      node = refl;
      stands = record { count = c.full_scan-count.ensures.count; marks = c.full_scan-count.ensures.nodes };
      past = c.full_scan-count.ensures.past;
      long = c.full_scan-count.ensures.long;
    }
