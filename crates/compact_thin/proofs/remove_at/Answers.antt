use Rattle.compact_thin.proofs.Shifting.{shifts, shifted}
use Rattle.compact_thin.proofs.remove_at.Goals as goal

pub returns : goal.returns
returns c = shifted (shifts c.requires.0 c.copy_within.ensures.len c.copy_within.ensures.by_index) c.requires.1
