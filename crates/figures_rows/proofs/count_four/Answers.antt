use Rattle.figures_rows.proofs.Going.{same_four}
use Rattle.figures_rows.proofs.count_four.Goals as goal

pub returns : goal.returns
returns c = same_four _ c.ones_in_common-some.ensures.0 c.ones_in_common-more.ensures.0 c.ones_in_common-both.ensures.0
