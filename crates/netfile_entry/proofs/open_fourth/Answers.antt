use mathlib.Core.Path.{◌∙◌}
use Rattle.netfile_entry.proofs.Opening.{no_fourth, a_fourth}
use Rattle.netfile_entry.proofs.open_fourth.Goals as goal

pub returns-then-count-eq3 : goal.returns-then-count-eq3
returns-then-count-eq3 c = no_fourth _ _ _ c.if-count-eq3.true

pub returns : goal.returns
returns c = c.open_entry.ensures ∙ a_fourth _ _ _ c.if-count-eq3.false
