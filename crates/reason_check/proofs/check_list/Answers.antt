-- Each return is one case of the verdict on a net.
use mathlib.Core.Path.{sym, ◌∙◌}
use Rattle.reason_check.proofs.check_list.Goals as goal

pub returns-then-is_bad_statement : goal.returns-then-is_bad_statement
returns-then-is_bad_statement c = simp (sym c.is_bad_statement.ensures ∙ c.if-is_bad_statement.true)

pub returns : goal.returns
returns c =
    simp (sym c.is_bad_statement.ensures ∙ c.if-is_bad_statement.false, sym c.is_path.ensures)
