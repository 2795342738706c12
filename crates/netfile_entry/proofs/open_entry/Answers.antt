use mathlib.Core.Path.{sym, ◌∙◌}
use borrow.Author.Tests.{not-true, not-false}
use Rattle.netfile_entry.proofs.Opening.{wrong_start, wrong_length, wrong_end, opened}
use Rattle.netfile_entry.proofs.open_entry.Goals as goal

pub returns-then-start-from : goal.returns-then-start-from
returns-then-start-from c = wrong_start _ _ _ _ _ _ c.u32_at-start.ensures c.u32_at-size.ensures c.if-start-from.true

pub returns-then-not-right_length : goal.returns-then-not-right_length
returns-then-not-right_length c =
    wrong_length _ _ _ _ _ _ c.u32_at-start.ensures c.u32_at-size.ensures c.if-start-from.false
    (sym c.right_length.ensures ∙ not-true _ c.if-not-right_length.true-raw)

pub returns-then-not-right_end : goal.returns-then-not-right_end
returns-then-not-right_end c =
    wrong_end _ _ _ _ _ _ c.u32_at-start.ensures c.u32_at-size.ensures c.if-start-from.false
    (sym c.right_length.ensures ∙ not-false _ c.if-not-right_length.false-raw) (sym c.right_end.ensures ∙ not-true _ c.if-not-right_end.true-raw)

pub returns : goal.returns
returns c =
    opened _ _ _ _ _ _ c.u32_at-start.ensures c.u32_at-size.ensures c.if-start-from.false
    (sym c.right_length.ensures ∙ not-false _ c.if-not-right_length.false-raw) (sym c.right_end.ensures ∙ not-false _ c.if-not-right_end.false-raw)
