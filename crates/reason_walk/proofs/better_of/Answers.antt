-- Each return is one case of the move, or of its word.
use mathlib.Core.List.{[], ◌∷◌}
use Rattle.theory.specs.Searches.{arc, next}
use Rattle.theory.specs.Origins.{chooses}
use Rattle.reason_search.proofs.WordMoves.{idle, passed, taken}
use Rattle.reason_walk.proofs.Nearer.{from_elsewhere, not_nearer, smaller, not_smaller}
use Rattle.reason_walk.proofs.better_of.Goals as goal

pub returns-then-from-state : goal.returns-then-from-state
returns-then-from-state c =
    idle (chooses c.args.set c.args.word) (from_elsewhere c.args.from c.args.to c.args.state c.args.i c.args.best c.args.places.now c.if-from-state.true)

pub returns-then-places-to : goal.returns-then-places-to
returns-then-places-to c =
    idle (chooses c.args.set c.args.word) (not_nearer c.args.from c.args.to c.args.state c.args.i c.args.best c.args.places.now c.if-from-state.false c.requires.inside c.if-places-to.true)

pub returns-then-not-is_chosen : goal.returns-then-not-is_chosen
returns-then-not-is_chosen c =
    passed (chooses c.args.set c.args.word) c.args.best (next (arc c.args.from c.args.to ∷ []) c.args.places.now c.args.state c.args.i c.args.best) c.is_chosen.ensures c.if-not-is_chosen.true

pub returns-then-to-best : goal.returns-then-to-best
returns-then-to-best c =
    taken (chooses c.args.set c.args.word) c.args.best c.is_chosen.ensures c.if-not-is_chosen.false
    (smaller c.args.from c.args.to c.args.state c.args.i c.args.best c.args.places.now c.if-from-state.false c.requires.inside c.if-places-to.false c.if-to-best.true)

pub returns-else-to-best : goal.returns-else-to-best
returns-else-to-best c =
    idle (chooses c.args.set c.args.word) (not_smaller c.args.from c.args.to c.args.state c.args.i c.args.best c.args.places.now c.if-from-state.false c.requires.inside c.if-places-to.false c.if-to-best.false)
