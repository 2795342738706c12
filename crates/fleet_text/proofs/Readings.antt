-- Sheets by computation: of nothing, of a length that is cut short, of a file of no bytes, and of net M.
use Prim.Native.Nat.{ℕ, ◌+◌, ◌*◌, ◌/◌, ◌%◌}
use mathlib.Core.Path.{◌≡◌, refl}
use mathlib.Core.List.{List, [], ◌∷◌, ◌++◌}
use Rattle.theory.specs.Marks.{mark, link, links, command, round}
use Rattle.theory.specs.Scans.{same, rounds}
use Rattle.theory.specs.Origins.{chosen}
use Rattle.net.specs.Passing.{passing}
use Rattle.net.specs.Table.{check_net, check_plain}
use Rattle.netfile_entry.specs.Entries.{entries, entry_at}
use Rattle.netfile.specs.Contents.{entries_of}
use Rattle.netfile_numbers.specs.Bytes.{u32s}
use Rattle.text_field.specs.Decimal.{digits}
use Rattle.figures_counts.specs.Counting.{count, count_rows, figures}
use Rattle.figures.specs.Figured.{figured_by}
use Rattle.figures_file.specs.Files.{figured_file}
use Rattle.fleet_line.specs.Line.{numbers_line, refused_line, total_line}
use Rattle.fleet_text.specs.Sums.{plus}
use Rattle.fleet_text.specs.Fleet.{file_line, length_of, next_of, fleet_from, fleet_text}

-- Digits with a space after each but the last.
abbrev pub spaced : List ℕ → List ℕ
spaced [] = []
spaced (d ∷ []) = (48 + d) ∷ 10 ∷ []
spaced (d ∷ e ∷ ds) = (48 + d) ∷ 32 ∷ spaced (e ∷ ds)

-- The words total and refused, with the space after them.
abbrev pub total_space : List ℕ
total_space = 116 ∷ 111 ∷ 116 ∷ 97 ∷ 108 ∷ 32 ∷ []

abbrev pub refused_space : List ℕ
refused_space = 114 ∷ 101 ∷ 102 ∷ 117 ∷ 115 ∷ 101 ∷ 100 ∷ 32 ∷ []

abbrev pub zero_total : List ℕ
zero_total = total_space ++ spaced (0 ∷ 0 ∷ 0 ∷ 0 ∷ 0 ∷ 0 ∷ 0 ∷ 0 ∷ [])

pub empty_input : fleet_text [] ≡ zero_total
unfolding fleet_from next_of total_line numbers_line digits
empty_input = refl

-- One byte, of four that the length has: 14.
pub length_cut : fleet_text (0 ∷ []) ≡ refused_space ++ 49 ∷ 52 ∷ 10 ∷ zero_total
unfolding fleet_from next_of length_of refused_line total_line numbers_line digits
length_cut = refl

-- A file of no bytes is malformed: 9, and the end is proper.
pub no_bytes : fleet_text (0 ∷ 0 ∷ 0 ∷ 0 ∷ []) ≡ refused_space ++ 57 ∷ 10 ∷ zero_total
unfolding fleet_from next_of length_of file_line figured_file entries_of entries plus refused_line total_line numbers_line digits
no_bytes = refl

-- A length of 32,769.
pub length_large : fleet_text (1 ∷ 128 ∷ 0 ∷ 0 ∷ []) ≡ refused_space ++ 49 ∷ 52 ∷ 10 ∷ zero_total
unfolding fleet_from next_of length_of refused_line total_line numbers_line digits
length_large = refl

-- The bytes of a number of four.
abbrev four : ℕ → List ℕ
four n = n % 256 ∷ n / 256 % 256 ∷ n / 65536 % 256 ∷ n / 16777216 ∷ []

-- The file of net M without questions, 52 bytes.
abbrev pub M_file : List ℕ
M_file =
    four 24 ++ four 8 ++ four 32 ++ four 20 ++ four 52 ++ four 0 ++ four 2 ++ four 4
    ++ four 4 ++ four 2058 ++ four 4103 ++ four 8198 ++ four 10248

-- Twice net M.
pub M_twice : fleet_text ((four 52 ++ M_file) ++ (four 52 ++ M_file))
    ≡ spaced (0 ∷ 4 ∷ 4 ∷ 0 ∷ 3 ∷ 7 ∷ 6 ∷ 0 ∷ []) ++ spaced (0 ∷ 4 ∷ 4 ∷ 0 ∷ 3 ∷ 7 ∷ 6 ∷ 0 ∷ [])
    ++ total_space ++ 48 ∷ 32 ∷ 56 ∷ 32 ∷ 56 ∷ 32 ∷ 48 ∷ 32 ∷ 54 ∷ 32 ∷ 49 ∷ 52 ∷ 32 ∷ 49 ∷ 50 ∷ 32 ∷ 48 ∷ 10 ∷ []
unfolding fleet_from next_of length_of file_line figured_file figured_by entries_of entries entry_at u32s check_plain chosen passing plus refused_line total_line numbers_line digits figures count_rows count rounds round command links link mark same
M_twice = refl

-- The same net in a file of four entries, 68 bytes, whose set chooses origins 0 and 1, with one word of origin 2 that would make both of a kind: it is not chosen.
abbrev pub M_chosen : List ℕ
M_chosen =
    four 32 ++ four 8 ++ four 40 ++ four 24 ++ four 64 ++ four 0 ++ four 64 ++ four 4 ++ four 2 ++ four 4
    ++ four 4 ++ four (2097152 + 2058) ++ four 4103 ++ four 8198 ++ four 10248 ++ four (2 * 2097152 + 4101) ++ four 3

pub M_with_origins : fleet_text (four 68 ++ M_chosen) ≡ spaced (0 ∷ 4 ∷ 4 ∷ 0 ∷ 3 ∷ 7 ∷ 6 ∷ 0 ∷ []) ++ total_space ++ spaced (0 ∷ 4 ∷ 4 ∷ 0 ∷ 3 ∷ 7 ∷ 6 ∷ 0 ∷ [])
unfolding fleet_from next_of length_of file_line figured_file figured_by entries_of entries entry_at u32s check_net chosen passing plus refused_line total_line numbers_line digits figures count_rows count rounds round command links link mark same
M_with_origins = refl
