use mathlib.Core.Path.{sym, ◌∙◌}
use Rattle.netfile_entry.proofs.Opening.{four_entries, three_entries}
use Rattle.netfile_entry.proofs.entry_count.Goals as goal

pub returns-then-u32_at-eq32 : goal.returns-then-u32_at-eq32
returns-then-u32_at-eq32 c = four_entries _ (sym c.u32_at.ensures ∙ c.if-u32_at-eq32.true)

pub returns-else-u32_at-eq32 : goal.returns-else-u32_at-eq32
returns-else-u32_at-eq32 c = three_entries _ (λ e. c.if-u32_at-eq32.false (c.u32_at.ensures ∙ e))
