-- Each return is one case of the move.
use mathlib.Core.Path.{refl, sym}
use mathlib.Core.List.{[], ◌∷◌}
use Rattle.theory_laws.proofs.Booleans.{contradiction}
use Rattle.theory.specs.Searches.{arc, level}
use Rattle.theory.specs.Origins.{chooses}
use Rattle.reason_search.proofs.WordMoves.{idle, passed, taken}
use Rattle.reason_search.proofs.Opening.{not_open, now_open}
use Rattle.reason_search.proofs.open_state.Goals as goal

pub returns-then-not-is_open : goal.returns-then-not-is_open
returns-then-not-is_open c =
    record {
      places_after = idle (chooses c.args.set c.args.word) (not_open c.args.i c.args.from c.args.to c.args.places.now c.is_open.ensures (c.if-not-is_open.true));
      kept = λ e. refl;
    }

pub returns-then-not-is_chosen : goal.returns-then-not-is_chosen
returns-then-not-is_chosen c =
    record {
      places_after = passed (chooses c.args.set c.args.word) c.args.places.now (level c.args.i (arc c.args.from c.args.to ∷ []) c.args.places.now) c.is_chosen.ensures (c.if-not-is_chosen.true);
      kept = λ e. refl;
    }

pub returns : goal.returns
returns c =
    record {
      places_after = taken (chooses c.args.set c.args.word) c.args.places.now c.is_chosen.ensures (c.if-not-is_chosen.false)
          (now_open c.args.i c.args.from c.args.to c.args.places.now c.is_open.ensures (c.if-not-is_open.false));
      kept = λ e. contradiction (sym e);
    }
