use mathlib.Core.Path.{◌∙◌}
use native.Mathlib.Omega.{arith}
use Rattle.theory.specs.Origins.{chosen}
use Rattle.theory.proofs.origins.Statements.{chosen_net}
use Rattle.reason_search.proofs.Levelling.{levels_begin, levels_next, levels_stop, levels_end}
use Rattle.reason_search.proofs.find_distances.Goals as goal

pub loop-i-init : goal.loop-i-init
loop-i-init c = (
  c.start_at.auto.places ∙ c.requires.room,
  levels_begin c.args.n c.args.sign (chosen c.args.set c.args.words.now) (chosen_net c.args.set 0 c.args.n c.args.words.now c.requires.net) c.args.y c.requires.node c.goal_of-end.ensures c.requires.room c.start_at.ensures,
)

pub returns-then-not-run_level : goal.returns-then-not-run_level
returns-then-not-run_level c =
    levels_stop c.args.n c.args.sign (chosen c.args.set c.args.words.now) (chosen_net c.args.set 0 c.args.n c.args.words.now c.requires.net) c.args.y c.requires.node c.loop-i.i (omega arith) c.loop-i.invariant.1 c.run_level.ensures.places_after (c.run_level.ensures.kept (c.if-not-run_level.true))

pub loop-i-preserved : goal.loop-i-preserved
loop-i-preserved c = (
  c.run_level.auto.places ∙ c.loop-i.invariant.0,
  levels_next c.args.n c.args.sign (chosen c.args.set c.args.words.now) (chosen_net c.args.set 0 c.args.n c.args.words.now c.requires.net) c.args.y c.requires.node c.loop-i.i c.loop-i.invariant.1 c.run_level.ensures.places_after,
)

pub returns : goal.returns
returns c =
    levels_end c.args.n c.args.sign (chosen c.args.set c.args.words.now) (chosen_net c.args.set 0 c.args.n c.args.words.now c.requires.net) c.args.y c.requires.node c.loop-i.i (omega arith) (omega arith) c.loop-i.invariant.1
