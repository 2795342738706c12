-- Readings of the text by computation: net M, and files and nets that are refused.
use Prim.Native.Nat.{ℕ, ◌+◌, ◌/◌, ◌%◌}
use mathlib.Core.Path.{◌≡◌, refl}
use mathlib.Core.List.{List, [], ◌∷◌, ◌++◌}
use lib.ListN.{replicate}
use Rattle.theory.specs.Marks.{mark, link, links, command, round}
use Rattle.theory.specs.Scans.{same, rounds}
use Rattle.theory.specs.Origins.{chosen}
use Rattle.net.specs.Passing.{passing}
use Rattle.net.specs.Table.{check_net, check_plain}
use Rattle.netfile_entry.specs.Entries.{entries, entry_at}
use Rattle.netfile.specs.Contents.{entries_of}
use Rattle.netfile_numbers.specs.Bytes.{u32s}
use Rattle.text_field.specs.Decimal.{digits}
use Rattle.ask_line.specs.Line.{line_of}
use Rattle.ask_net.specs.Lines.{lines_of, net_text}
use Rattle.ask_text.specs.Text.{text_of}

-- The bytes of a number of four, and of a question.
abbrev four : ℕ → List ℕ
four n = n % 256 ∷ n / 256 % 256 ∷ n / 65536 % 256 ∷ n / 16777216 ∷ []

abbrev asks : ℕ → ℕ → List ℕ
asks x y = x % 256 ∷ x / 256 ∷ y % 256 ∷ y / 256 ∷ []

-- The contents of a file with so many bytes of words and of questions.
abbrev contents : ℕ → ℕ → ℕ → List ℕ
contents words start questions = four 24 ++ four 8 ++ four 32 ++ four words ++ four start ++ four questions

-- The file of net M with its five questions.
abbrev pub M_file : List ℕ
M_file =
    contents 20 52 20 ++ four 2 ++ four 4 ++ four 4 ++ four 2058 ++ four 4103 ++ four 8198 ++ four 10248
    ++ asks 0 4 ++ asks 1 4 ++ asks 2 5 ++ asks 3 4 ++ asks 3 0

-- Its five lines.
abbrev pub M_text : List ℕ
M_text =
    (48 ∷ 32 ∷ 52 ∷ 32 ∷ 110 ∷ 111 ∷ 32 ∷ 53 ∷ 10 ∷ [])
    ++ (49 ∷ 32 ∷ 52 ∷ 32 ∷ 121 ∷ 101 ∷ 115 ∷ 32 ∷ 53 ∷ 10 ∷ [])
    ++ (50 ∷ 32 ∷ 53 ∷ 32 ∷ 110 ∷ 111 ∷ 32 ∷ 53 ∷ 10 ∷ [])
    ++ (51 ∷ 32 ∷ 52 ∷ 32 ∷ 110 ∷ 111 ∷ 110 ∷ 101 ∷ 32 ∷ 52 ∷ 10 ∷ [])
    ++ (51 ∷ 32 ∷ 48 ∷ 32 ∷ 114 ∷ 101 ∷ 102 ∷ 117 ∷ 115 ∷ 101 ∷ 100 ∷ 32 ∷ 52 ∷ 10 ∷ [])

pub M_reads : text_of M_file ≡ M_text
unfolding text_of entries_of entries entry_at u32s net_text check_plain chosen passing lines_of line_of digits rounds round command links link mark same
M_reads = refl

-- A file that is refused: `file 9` and the place.
abbrev pub refused_file : ℕ → List ℕ
refused_file place = 102 ∷ 105 ∷ 108 ∷ 101 ∷ 32 ∷ 57 ∷ 32 ∷ (48 + place) ∷ 10 ∷ []

pub no_bytes : text_of [] ≡ refused_file 3
unfolding text_of entries_of entries digits
no_bytes = refl

pub bytes_23 : text_of (replicate 23 0) ≡ refused_file 3
unfolding text_of entries_of entries digits
bytes_23 = refl

pub bytes_24 : text_of (replicate 24 0) ≡ refused_file 0
unfolding text_of entries_of entries entry_at digits
bytes_24 = refl

-- A length of 2 ^ 32 - 28 whose end would be 4 in four bytes.
pub end_past_four_bytes : text_of (contents 4294967268 4 28 ++ four 1 ++ four 1) ≡ refused_file 1
unfolding text_of entries_of entries entry_at digits
end_past_four_bytes = refl

-- A file without questions whose net is refused: `net`, the number, the index and the cause.
abbrev pub refused_net : ℕ → ℕ → ℕ → List ℕ
refused_net number index cause = 110 ∷ 101 ∷ 116 ∷ 32 ∷ (48 + number) ∷ 32 ∷ (48 + index) ∷ 32 ∷ (48 + cause) ∷ 10 ∷ []

pub too_many_nodes : text_of (contents 0 32 0 ++ four 4294967295 ++ four 1) ≡ refused_net 1 0 0
unfolding text_of entries_of entries entry_at u32s net_text check_plain digits
too_many_nodes = refl

pub illegal_word : text_of (contents 8 40 0 ++ four 1 ++ four 1 ++ four 2 ++ four 0) ≡ refused_net 3 1 2
unfolding text_of entries_of entries entry_at u32s net_text check_plain chosen passing digits
illegal_word = refl

pub tail_outside : text_of (contents 8 40 0 ++ four 1 ++ four 1 ++ four 2 ++ four 4096) ≡ refused_net 3 1 1
unfolding text_of entries_of entries entry_at u32s net_text check_plain chosen passing digits
tail_outside = refl

-- A legal net without questions prints nothing.
pub no_questions : text_of (contents 4 36 0 ++ four 1 ++ four 1 ++ four 2) ≡ []
unfolding text_of entries_of entries entry_at u32s net_text check_plain chosen passing lines_of
no_questions = refl

-- A word of 2,097,152 or more is no plain word: its tail is outside.
pub no_plain_word : text_of (contents 4 36 0 ++ four 1 ++ four 1 ++ four 2097154) ≡ refused_net 3 0 1
unfolding text_of entries_of entries entry_at u32s net_text check_plain passing digits
no_plain_word = refl

-- ── four entries ──

-- The contents of a file with so many bytes of words and of questions, and a set.
abbrev contents_4 : ℕ → ℕ → ℕ → ℕ → List ℕ
contents_4 words start questions set = four 32 ++ four 8 ++ four 40 ++ four words ++ four start ++ four questions ++ four set ++ four 4

-- One object, one kind: that the object is the kind, entered by origin 1, and the question whether it is. With origin 1 it is, without it nothing is said.
abbrev pub entered : ℕ → List ℕ
entered set = contents_4 4 44 4 48 ++ four 1 ++ four 1 ++ four 2097154 ++ asks 0 1 ++ four set

pub with_origin_1 : text_of (entered 2) ≡ 48 ∷ 32 ∷ 49 ∷ 32 ∷ 121 ∷ 101 ∷ 115 ∷ 32 ∷ 50 ∷ 10 ∷ []
unfolding text_of entries_of entries entry_at u32s net_text check_net chosen passing lines_of line_of digits rounds round command links link mark same
with_origin_1 = refl

pub without_origin_1 : text_of (entered 13) ≡ 48 ∷ 32 ∷ 49 ∷ 32 ∷ 110 ∷ 111 ∷ 110 ∷ 101 ∷ 32 ∷ 49 ∷ 10 ∷ []
unfolding text_of entries_of entries entry_at u32s net_text check_net chosen passing lines_of line_of digits rounds round command links link mark same
without_origin_1 = refl

-- A set above 15: `net 15 0 0`.
pub set_16 : text_of (entered 16) ≡ 110 ∷ 101 ∷ 116 ∷ 32 ∷ 49 ∷ 53 ∷ 32 ∷ 48 ∷ 32 ∷ 48 ∷ 10 ∷ []
unfolding text_of entries_of entries entry_at u32s net_text check_net passing digits
set_16 = refl

-- A byte behind the set: place 4.
pub behind_the_set : text_of (entered 2 ++ 0 ∷ []) ≡ refused_file 4
unfolding text_of entries_of entries entry_at digits
behind_the_set = refl
