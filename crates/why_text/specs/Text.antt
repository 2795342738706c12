-- The text that `why` prints for a file: what `ask` prints, and below the line of each question why.
use Rattle.std.specs.Prelude.{ℕ, zero, suc, ◌/◌, Bool, true, false, cond, List, [], ◌++◌, eqb, length, drop, Err, Ok}
use Rattle.net.specs.Table.{check_net, check_plain}
use Rattle.net.specs.Table.{Checked}
use Rattle.netfile_numbers.specs.Bytes.{u16_at, u32_at}
use Rattle.netfile.specs.Contents.{entries_of, stretch}
use Rattle.ask_net.specs.Lines.{net_text}
use Rattle.ask_text.specs.Text.{words_of, file_report}
use Rattle.why_question.specs.Because.{question_text}

-- The texts of the first j questions of a body.
unfoldable pub questions_text : Bool → ℕ → ℕ → List ℕ → ℕ → ℕ → List ℕ → List ℕ
questions_text told o k ws set zero b = []
questions_text told o k ws set (suc j) b = question_text told o k ws set (u16_at b 0) (u16_at b 2) ++ questions_text told o k ws set j (drop 4 b)

-- The text for a net by what its check gave: that of each question, or for a net that is refused what `ask` prints.
unfoldable pub net_why : Bool → ℕ → ℕ → List ℕ → ℕ → List ℕ → Checked → List ℕ
net_why told o k ws set b (Ok n) = questions_text told o k ws set (length b / 4) b
net_why told o k ws set b (Err r) = net_text o k ws set b (Err r)

-- The text for the bodies of a file: without a set the words are plain and no origin is told, with one they have origins, which are.
abbrev pub bodies_why : List ℕ → List ℕ → List ℕ → List ℕ → List ℕ
bodies_why nodes words questions origins =
    cond (eqb (length origins) 0)
    (net_why false (u32_at nodes 0) (u32_at nodes 4) (words_of words) 1 questions (check_plain (u32_at nodes 0) (u32_at nodes 4) (words_of words)))
    (net_why true (u32_at nodes 0) (u32_at nodes 4) (words_of words) (u32_at origins 0) questions (check_net (u32_at nodes 0) (u32_at nodes 4) (words_of words) (u32_at origins 0)))

-- All that `why` prints for a file.
unfoldable pub why_of : List ℕ → List ℕ
why_of s = entries_of file_report (λ a e b f c g d h. bodies_why (stretch s a e) (stretch s b f) (stretch s c g) (stretch s d h)) s
