-- The words with an open lane, then the blocks and then the rest are all words.
use mathlib.Core.Path.{sym, ◌∙◌}
use Rattle.scan_pass.proofs.follow_all.Goals as goal

pub returns : goal.returns
returns c =
    c.follow_rest.ensures ∙ sym (c.follow_open-from.ensures.marks_value ∙ c.follow_blocks.ensures)
