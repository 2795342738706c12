use mathlib.Core.Path.{refl, sym, ◌∙◌}
use native.Mathlib.Omega.{arith}
use Rattle.theory.specs.Words.{sign_at}
use Rattle.theory.proofs.origins.Folds.{chosen_level_end}
use Rattle.reason_search.proofs.Levelling.{ends_at, level_more}
use Rattle.reason_search.proofs.Opening.{kept_then}
use Rattle.reason_search.proofs.run_level.Goals as goal

pub loop-word-init : goal.loop-word-init
loop-word-init c = (refl, λ e. refl)

pub open_word-opened-requires : goal.open_word-opened-requires
open_word-opened-requires c =
    record {
      small = c.requires.small;
      ends = ends_at c.args.n c.args.words.now c.requires.net c.loop-word.word-index (omega arith);
      few = omega (arith, c.requires.net.few);
      room = omega (arith, c.requires.room);
    }

pub loop-word-preserved : goal.loop-word-preserved
loop-word-preserved c = (
  level_more c.args.set c.args.n c.args.sign c.args.words.now c.args.i c.loop-word.word-index c.loop-word.places (omega arith) c.loop-word.invariant.0 c.open_word-opened.ensures.places_after,
  kept_then c.loop-word.opened c.open_word-opened.result c.loop-word.invariant.1 c.open_word-opened.ensures.kept,
)

pub returns : goal.returns
returns c =
    record {
      places_after = sym (c.loop-word.invariant.0 ∙ chosen_level_end c.args.set c.args.n (sign_at c.args.sign) c.args.i c.args.words.now c.loop-word.word-index c.loop-word.places (omega arith));
      kept = c.loop-word.invariant.1;
    }
