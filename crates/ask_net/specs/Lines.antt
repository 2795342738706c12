-- The text that `ask` prints for a net.
use Rattle.std.specs.Prelude.{ℕ, zero, suc, ◌/◌, List, [], ◌++◌, length, drop, Err, Ok}
use Rattle.theory.specs.Marks.{blank}
use Rattle.net.specs.Table.{check_net, check_plain, refusal_reply}
use Rattle.net.specs.Table.{Checked}
use Rattle.question.specs.Table.{questioned}
use Rattle.netfile_numbers.specs.Bytes.{u16_at}
use Rattle.text_field.specs.Decimal.{decimal}
use Rattle.ask_answer.specs.Ending.{field, last_field}
use Rattle.ask_line.specs.Line.{net_word, line_of}

-- The lines of the first j questions of a body.
unfoldable pub lines_of : ℕ → ℕ → List ℕ → ℕ → ℕ → List ℕ → List ℕ
lines_of o k ws set zero b = []
lines_of o k ws set (suc j) b =
    line_of (u16_at b 0) (u16_at b 2) (questioned o k ws set (u16_at b 0) (u16_at b 2) (blank 1024)).answer ++ lines_of o k ws set j (drop 4 b)

-- The text for a net by what its check gave: a line for each question, or its number, the index and the cause.
unfoldable pub net_text : ℕ → ℕ → List ℕ → ℕ → List ℕ → Checked → List ℕ
net_text o k ws set b (Ok n) = lines_of o k ws set (length b / 4) b
net_text o k ws set b (Err r) = field net_word (field (decimal (refusal_reply r).number) (field (decimal (refusal_reply r).first) (last_field (decimal (refusal_reply r).second))))

-- The text for a net whose words have origins, read with a set of them.
abbrev pub chosen_text : ℕ → ℕ → List ℕ → ℕ → List ℕ → List ℕ
chosen_text o k ws set b = net_text o k ws set b (check_net o k ws set)

-- The text for a net of plain words: they are checked as a plain list, and all of them are of origin 0, which is chosen.
abbrev pub plain_text : ℕ → ℕ → List ℕ → List ℕ → List ℕ
plain_text o k ws b = net_text o k ws 1 b (check_plain o k ws)
