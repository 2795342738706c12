-- The text of `why` turn by turn, as the program writes it: a turn for each question.
use Rattle.std.specs.Prelude.{ℕ, zero, suc, ◌+◌, ◌*◌, ◌/◌, ◌≡◌, Bool, true, false, cond, List, [], ◌++◌, eqb, ltb, length, Err, Ok}
use Rattle.net.specs.Table.{check_net, check_plain}
use Rattle.net.specs.Table.{Checked}
use Rattle.netfile_numbers.specs.Bytes.{u16_at, u32_at}
use Rattle.netfile.specs.Contents.{entries_of, stretch}
use Rattle.text_field.specs.Writing.{Wrote}
use Rattle.ask_net.specs.Lines.{net_text}
use Rattle.ask_text.specs.Text.{words_of, file_report}
use Rattle.why_question.specs.Because.{question_text}
use Rattle.why_text.specs.declared.Turn.{Turn}

-- The part of the text that one turn prints, and whether another turn follows.
pub record Part : Type 0 where
  pub text : List ℕ
  pub going : Bool

-- The last part.
abbrev pub last_part : List ℕ → Part
last_part text = record { text = text; going = false }

-- The text of question i of a body, nothing where there is none.
unfoldable pub question_at : Bool → ℕ → ℕ → List ℕ → ℕ → List ℕ → ℕ → List ℕ
question_at told o k ws set b i = cond (ltb i (length b / 4)) (question_text told o k ws set (u16_at b (i * 4)) (u16_at b (i * 4 + 2))) []

-- Question i, and another turn where there is a question after it.
abbrev pub question_part : Bool → ℕ → ℕ → List ℕ → ℕ → List ℕ → ℕ → Part
question_part told o k ws set b i = record { text = question_at told o k ws set b i; going = ltb (i + 1) (length b / 4) }

-- Part i for a net by what its check gave: question i; one part for a net that is refused.
unfoldable pub net_part : Bool → ℕ → ℕ → List ℕ → ℕ → List ℕ → ℕ → Checked → Part
net_part told o k ws set b i (Ok n) = question_part told o k ws set b i
net_part told o k ws set b i (Err r) = last_part (net_text o k ws set b (Err r))

-- Part i for the bodies of a file.
abbrev pub bodies_part : List ℕ → List ℕ → List ℕ → List ℕ → ℕ → Part
bodies_part nodes words questions origins i =
    cond (eqb (length origins) 0)
    (net_part false (u32_at nodes 0) (u32_at nodes 4) (words_of words) 1 questions i (check_plain (u32_at nodes 0) (u32_at nodes 4) (words_of words)))
    (net_part true (u32_at nodes 0) (u32_at nodes 4) (words_of words) (u32_at origins 0) questions i (check_net (u32_at nodes 0) (u32_at nodes 4) (words_of words) (u32_at origins 0)))

-- Part i for a file; one part for a malformed file.
unfoldable pub part_of : List ℕ → ℕ → Part
part_of s i = entries_of (λ place. last_part (file_report place)) (λ a e b f c g d h. bodies_part (stretch s a e) (stretch s b f) (stretch s c g) (stretch s d h) i) s

-- What turn i prints for a file, and whether another turn follows.
abbrev pub turn_text : List ℕ → ℕ → List ℕ
turn_text s i = (part_of s i).text

abbrev pub goes_on : List ℕ → ℕ → Bool
goes_on s i = (part_of s i).going

-- The turns from turn i on, one after another until one is the last, where so many may still come.
unfoldable pub turns_from : ℕ → List ℕ → ℕ → List ℕ
turns_from zero s i = []
turns_from (suc left) s i = turn_text s i ++ cond (goes_on s i) (turns_from left s (suc i)) []

-- The turn t printed this part: its text stands in front of l, which became l', and it tells whether another turn follows.
pub record Turned (p : Part) (l l' : List ℕ) (t : Turn) : Type 0 where
  pub text : Wrote p.text l l' t.size
  pub going : t.going ≡ p.going
