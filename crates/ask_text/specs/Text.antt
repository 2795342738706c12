-- The text that `ask` prints for a file.
use Rattle.std.specs.Prelude.{ℕ, ◌/◌, cond, List, eqb, length, Err}
use Rattle.netfile_numbers.specs.Bytes.{u32_at, u32s}
use Rattle.netfile.specs.Contents.{contents_reply, entries_of, stretch, malformed_at}
use Rattle.ask_net.specs.Lines.{chosen_text, plain_text}
use Rattle.text_field.specs.Decimal.{decimal}
use Rattle.ask_answer.specs.Ending.{field, last_field}
use Rattle.ask_line.specs.Line.{file_word}

-- The words of a body.
abbrev pub words_of : List ℕ → List ℕ
words_of b = u32s (length b / 4) b

-- The text for the bodies of a file: without a set the words are plain, with one they have origins.
abbrev pub bodies_text : List ℕ → List ℕ → List ℕ → List ℕ → List ℕ
bodies_text nodes words questions origins =
    cond (eqb (length origins) 0) (plain_text (u32_at nodes 0) (u32_at nodes 4) (words_of words) questions)
    (chosen_text (u32_at nodes 0) (u32_at nodes 4) (words_of words) (u32_at origins 0) questions)

-- The text for a malformed one: its number and the place.
abbrev pub file_report : ℕ → List ℕ
file_report place = field file_word (field (decimal (contents_reply (Err (malformed_at place))).number) (last_field (decimal (contents_reply (Err (malformed_at place))).first)))

-- All that `ask` prints for a file, whose bodies are the stretches between each entry's start and end.
unfoldable pub text_of : List ℕ → List ℕ
text_of s = entries_of file_report (λ a e b f c g d h. bodies_text (stretch s a e) (stretch s b f) (stretch s c g) (stretch s d h)) s
