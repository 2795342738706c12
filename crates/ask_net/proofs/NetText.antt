-- The text for a net, by what its check gave.
use Rattle.std.specs.Prelude.{Err, Ok}
use Prim.Native.Nat.{ℕ, ◌/◌}
use mathlib.Core.Path.{◌≡◌}
use mathlib.Core.List.{List}
use lib.ListN.{length}
use Rattle.net.specs.Table.{Reply, refusal_reply}
use Rattle.net.specs.declared.Refusal.{Refusal}
use Rattle.net.specs.Table.{Checked}
use Rattle.text_field.specs.Decimal.{decimal}
use Rattle.ask_answer.specs.Ending.{field, last_field}
use Rattle.ask_line.specs.Line.{net_word}
use Rattle.ask_net.specs.Lines.{lines_of, net_text}

module _ (o k : ℕ) (ws : List ℕ) (set : ℕ) {c : Checked} where
  -- A net that is not refused has a line for each question,
  pub net_lines : (b : List ℕ) {n : ℕ} → c ≡ Ok n → lines_of o k ws set (length b / 4) b ≡ net_text o k ws set b c
  unfolding net_text
  net_lines b f = rw f

  -- and a refused one its number, the index and the cause.
  pub net_report : (b : List ℕ) {r : Refusal} {given : Reply} → c ≡ Err r → given ≡ refusal_reply r
      → field net_word (field (decimal given.number) (field (decimal given.first) (last_field (decimal given.second)))) ≡ net_text o k ws set b c
  unfolding net_text
  net_report b f g = rw (f, g)

-- The text by an answer that the code has is the text by the check.
pub text_as : (o k : ℕ) (ws : List ℕ) (set : ℕ) {c d : Checked} → c ≡ d → (b : List ℕ) → net_text o k ws set b c ≡ net_text o k ws set b d
text_as o k ws set e b = rw e
