use Rattle.why.proofs.Going.{turn_made}
use Rattle.why.proofs.main.Goals as goal

pub loop-going-preserved : goal.loop-going-preserved
loop-going-preserved c = turn_made _ _ _ _ c.take_turn-turn.ensures
