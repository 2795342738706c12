use mathlib.Core.Path.{sym, ◌∙◌}
use native.Mathlib.Omega.{arith}
use Rattle.theory.specs.Words.{sign_at}
use Rattle.theory.proofs.origins.Folds.{chosen_next_end}
use Rattle.reason_search.proofs.Levelling.{ends_at}
use Rattle.reason_walk.proofs.Nearer.{next_more}
use Rattle.reason_walk.proofs.next_state.Goals as goal

pub best_of_word-best-requires : goal.best_of_word-best-requires
best_of_word-best-requires c =
    record {
      ends = ends_at c.args.n c.args.words.now c.requires.net c.loop-word.word-index (omega arith);
      few = omega (arith, c.requires.net.few);
      room = c.requires.room;
    }

pub loop-word-preserved : goal.loop-word-preserved
loop-word-preserved c =
    next_more c.args.set c.args.n c.args.sign c.args.words.now c.loop-word.word-index c.args.places.now c.args.state c.args.i c.loop-word.best (omega arith) c.loop-word.invariant c.best_of_word-best.ensures

pub returns : goal.returns
returns c =
    sym (c.loop-word.invariant ∙ chosen_next_end c.args.set c.args.n (sign_at c.args.sign) c.args.places.now c.args.state c.args.i c.args.words.now c.loop-word.word-index c.loop-word.best (omega arith))
