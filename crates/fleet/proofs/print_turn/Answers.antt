use Rattle.fleet.proofs.Going.{turn_kept}
use Rattle.fleet.proofs.print_turn.Goals as goal

pub returns-then-is_ok : goal.returns-then-is_ok
returns-then-is_ok g c =
    turn_kept c.args.left c.args.sums c.args.head.now _ c.requires.few.0 c.requires.few.1 _ _ c.take_turn-turn.ensures

pub returns-else-is_ok : goal.returns-else-is_ok
returns-else-is_ok g c =
    turn_kept c.args.left c.args.sums c.args.head.now _ c.requires.few.0 c.requires.few.1 _ _ c.take_turn-turn.ensures
