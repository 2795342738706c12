-- Readings of the text by computation: files and nets that are refused, a net without questions, one of one link, and net M.
use Prim.Native.Nat.{ℕ, ◌/◌, ◌%◌}
use mathlib.Core.Path.{◌≡◌, refl}
use mathlib.Core.List.{List, [], ◌∷◌, ◌++◌}
use lib.ListN.{replicate}
use Rattle.theory.specs.Marks.{mark, link, links, command, round}
use Rattle.theory.specs.Scans.{same, rounds}
use Rattle.theory.specs.Origins.{chosen}
use Rattle.theory.specs.Searches.{arcs, level, levels, distances, next, descend, reason_states, firsts, reason_list}
use Rattle.theory.specs.Checks.{listed}
use Rattle.net.specs.Passing.{passing}
use Rattle.net.specs.Table.{check_net, check_plain}
use Rattle.netfile_entry.specs.Entries.{entries, entry_at}
use Rattle.netfile.specs.Contents.{entries_of}
use Rattle.netfile_numbers.specs.Bytes.{u32s}
use Rattle.text_field.specs.Decimal.{digits}
use Rattle.ask_net.specs.Lines.{net_text}
use Rattle.ask_line.specs.Line.{line_of}
use Rattle.ask_text.proofs.Readings.{M_file, entered, refused_file, refused_net}
use Rattle.derivation_lines.specs.Deriving.{place_of, steps, climb, cross, derive}
use Rattle.derivation_lines.specs.Flat.{flat, lines_of}
use Rattle.why_line.specs.Text.{said_text, link_text, from_one, from_two, front_text, line_text, lines_text}
use Rattle.why_reason.specs.Told.{told_by, why_text}
use Rattle.why_question.specs.Because.{because_text, asked_text, question_text}
use Rattle.why_text.specs.Text.{questions_text, net_why, why_of}

pub no_bytes : why_of [] ≡ refused_file 3
unfolding why_of entries_of entries digits
no_bytes = refl

pub zeros : why_of (replicate 24 0) ≡ refused_file 0
unfolding why_of entries_of entries entry_at digits
zeros = refl

-- A byte behind the set.
pub behind_the_set : why_of (entered 2 ++ 0 ∷ []) ≡ refused_file 4
unfolding why_of entries_of entries entry_at digits
behind_the_set = refl

-- The bytes of a number of four.
abbrev four : ℕ → List ℕ
four n = n % 256 ∷ n / 256 % 256 ∷ n / 65536 % 256 ∷ n / 16777216 ∷ []

-- A file without questions: one object, one kind, and one word.
abbrev pub one_word : ℕ → List ℕ
one_word w = four 24 ++ four 8 ++ four 32 ++ four 4 ++ four 36 ++ four 0 ++ four 1 ++ four 1 ++ four w

-- Its word is refused, for its tail and for its head;
pub tail_outside : why_of (one_word 4098) ≡ refused_net 3 0 1
unfolding why_of entries_of entries entry_at u32s net_why net_text check_plain passing digits
tail_outside = refl

pub head_no_kind : why_of (one_word 0) ≡ refused_net 3 0 2
unfolding why_of entries_of entries entry_at u32s net_why net_text check_plain passing digits
head_no_kind = refl

-- or it is legal, and nothing is printed.
pub no_questions : why_of (one_word 2) ≡ []
unfolding why_of entries_of entries entry_at u32s net_why questions_text check_plain passing
no_questions = refl

-- A set above 15: `net 15 0 0`, before any question.
pub set_16 : why_of (entered 16) ≡ 110 ∷ 101 ∷ 116 ∷ 32 ∷ 49 ∷ 53 ∷ 32 ∷ 48 ∷ 32 ∷ 48 ∷ 10 ∷ []
unfolding why_of entries_of entries entry_at u32s net_why net_text check_net passing digits
set_16 = refl

-- ── with a question ──

-- Where origin 1 entered that the object is the kind, and is not in the set, the net is silent.
pub silent : why_of (entered 13) ≡ 48 ∷ 32 ∷ 49 ∷ 32 ∷ 110 ∷ 111 ∷ 110 ∷ 101 ∷ 32 ∷ 49 ∷ 10 ∷ 32 ∷ 32 ∷ 116 ∷ 104 ∷ 101 ∷ 32 ∷ 110 ∷ 101 ∷ 116 ∷ 32 ∷ 105 ∷ 115 ∷ 32 ∷ 115 ∷ 105 ∷ 108 ∷ 101 ∷ 110 ∷ 116 ∷ 10 ∷ []
unfolding why_of entries_of entries entry_at u32s net_why questions_text check_net chosen passing question_text asked_text because_text line_of digits rounds round command links link mark same
silent = refl

-- With it in the set the link is told, and who entered it.
pub linked : why_of (entered 2) ≡ 48 ∷ 32 ∷ 49 ∷ 32 ∷ 121 ∷ 101 ∷ 115 ∷ 32 ∷ 50 ∷ 10 ∷ 32 ∷ 32 ∷ 49 ∷ 32 ∷ 32 ∷ 48 ∷ 32 ∷ 105 ∷ 115 ∷ 32 ∷ 49 ∷ 32 ∷ 32 ∷ 32 ∷ 32 ∷ 32 ∷ 32 ∷ 108 ∷ 105 ∷ 110 ∷ 107 ∷ 32 ∷ 48 ∷ 32 ∷ 111 ∷ 114 ∷ 105 ∷ 103 ∷ 105 ∷ 110 ∷ 32 ∷ 49 ∷ 10 ∷ []
unfolding why_of entries_of entries entry_at u32s net_why questions_text check_net chosen passing question_text asked_text because_text line_of digits rounds round command links link mark same why_text told_by distances levels level arcs reason_states descend next firsts reason_list flat derive cross climb steps place_of listed lines_text line_text front_text said_text link_text lines_of
linked = refl

-- Net M with its five questions: the text that stands in the file stdout of `why`, line by line.
abbrev pub M_why : List ℕ
M_why =
    (48 ∷ 32 ∷ 52 ∷ 32 ∷ 110 ∷ 111 ∷ 32 ∷ 53 ∷ 10 ∷ [])
    ++ (32 ∷ 32 ∷ 49 ∷ 32 ∷ 32 ∷ 48 ∷ 32 ∷ 105 ∷ 115 ∷ 32 ∷ 50 ∷ 32 ∷ 32 ∷ 32 ∷ 32 ∷ 32 ∷ 32 ∷ 108 ∷ 105 ∷ 110 ∷ 107 ∷ 32 ∷ 48 ∷ 10 ∷ [])
    ++ (32 ∷ 32 ∷ 50 ∷ 32 ∷ 32 ∷ 50 ∷ 32 ∷ 105 ∷ 115 ∷ 45 ∷ 110 ∷ 111 ∷ 116 ∷ 32 ∷ 51 ∷ 32 ∷ 32 ∷ 108 ∷ 105 ∷ 110 ∷ 107 ∷ 32 ∷ 50 ∷ 10 ∷ [])
    ++ (32 ∷ 32 ∷ 51 ∷ 32 ∷ 32 ∷ 48 ∷ 32 ∷ 105 ∷ 115 ∷ 45 ∷ 110 ∷ 111 ∷ 116 ∷ 32 ∷ 51 ∷ 32 ∷ 32 ∷ 51 ∷ 46 ∷ 52 ∷ 32 ∷ 102 ∷ 114 ∷ 111 ∷ 109 ∷ 32 ∷ 49 ∷ 32 ∷ 50 ∷ 10 ∷ [])
    ++ (32 ∷ 32 ∷ 52 ∷ 32 ∷ 32 ∷ 52 ∷ 32 ∷ 105 ∷ 115 ∷ 32 ∷ 51 ∷ 32 ∷ 32 ∷ 32 ∷ 32 ∷ 32 ∷ 32 ∷ 108 ∷ 105 ∷ 110 ∷ 107 ∷ 32 ∷ 51 ∷ 10 ∷ [])
    ++ (32 ∷ 32 ∷ 53 ∷ 32 ∷ 32 ∷ 48 ∷ 32 ∷ 105 ∷ 115 ∷ 45 ∷ 110 ∷ 111 ∷ 116 ∷ 32 ∷ 52 ∷ 32 ∷ 32 ∷ 51 ∷ 46 ∷ 53 ∷ 32 ∷ 102 ∷ 114 ∷ 111 ∷ 109 ∷ 32 ∷ 52 ∷ 32 ∷ 51 ∷ 10 ∷ [])
    ++ (49 ∷ 32 ∷ 52 ∷ 32 ∷ 121 ∷ 101 ∷ 115 ∷ 32 ∷ 53 ∷ 10 ∷ [])
    ++ (32 ∷ 32 ∷ 49 ∷ 32 ∷ 32 ∷ 49 ∷ 32 ∷ 105 ∷ 115 ∷ 32 ∷ 53 ∷ 32 ∷ 32 ∷ 32 ∷ 32 ∷ 32 ∷ 32 ∷ 108 ∷ 105 ∷ 110 ∷ 107 ∷ 32 ∷ 49 ∷ 10 ∷ [])
    ++ (32 ∷ 32 ∷ 50 ∷ 32 ∷ 32 ∷ 53 ∷ 32 ∷ 105 ∷ 115 ∷ 32 ∷ 52 ∷ 32 ∷ 32 ∷ 32 ∷ 32 ∷ 32 ∷ 32 ∷ 108 ∷ 105 ∷ 110 ∷ 107 ∷ 32 ∷ 52 ∷ 10 ∷ [])
    ++ (32 ∷ 32 ∷ 51 ∷ 32 ∷ 32 ∷ 49 ∷ 32 ∷ 105 ∷ 115 ∷ 32 ∷ 52 ∷ 32 ∷ 32 ∷ 32 ∷ 32 ∷ 32 ∷ 32 ∷ 51 ∷ 46 ∷ 50 ∷ 32 ∷ 102 ∷ 114 ∷ 111 ∷ 109 ∷ 32 ∷ 49 ∷ 32 ∷ 50 ∷ 10 ∷ [])
    ++ (50 ∷ 32 ∷ 53 ∷ 32 ∷ 110 ∷ 111 ∷ 32 ∷ 53 ∷ 10 ∷ [])
    ++ (32 ∷ 32 ∷ 49 ∷ 32 ∷ 32 ∷ 50 ∷ 32 ∷ 105 ∷ 115 ∷ 45 ∷ 110 ∷ 111 ∷ 116 ∷ 32 ∷ 51 ∷ 32 ∷ 32 ∷ 108 ∷ 105 ∷ 110 ∷ 107 ∷ 32 ∷ 50 ∷ 10 ∷ [])
    ++ (32 ∷ 32 ∷ 50 ∷ 32 ∷ 32 ∷ 51 ∷ 32 ∷ 105 ∷ 115 ∷ 45 ∷ 110 ∷ 111 ∷ 116 ∷ 32 ∷ 50 ∷ 32 ∷ 32 ∷ 51 ∷ 46 ∷ 51 ∷ 32 ∷ 102 ∷ 114 ∷ 111 ∷ 109 ∷ 32 ∷ 49 ∷ 10 ∷ [])
    ++ (32 ∷ 32 ∷ 51 ∷ 32 ∷ 32 ∷ 52 ∷ 32 ∷ 105 ∷ 115 ∷ 32 ∷ 51 ∷ 32 ∷ 32 ∷ 32 ∷ 32 ∷ 32 ∷ 32 ∷ 108 ∷ 105 ∷ 110 ∷ 107 ∷ 32 ∷ 51 ∷ 10 ∷ [])
    ++ (32 ∷ 32 ∷ 52 ∷ 32 ∷ 32 ∷ 52 ∷ 32 ∷ 105 ∷ 115 ∷ 45 ∷ 110 ∷ 111 ∷ 116 ∷ 32 ∷ 50 ∷ 32 ∷ 32 ∷ 51 ∷ 46 ∷ 52 ∷ 32 ∷ 102 ∷ 114 ∷ 111 ∷ 109 ∷ 32 ∷ 51 ∷ 32 ∷ 50 ∷ 10 ∷ [])
    ++ (32 ∷ 32 ∷ 53 ∷ 32 ∷ 32 ∷ 53 ∷ 32 ∷ 105 ∷ 115 ∷ 32 ∷ 52 ∷ 32 ∷ 32 ∷ 32 ∷ 32 ∷ 32 ∷ 32 ∷ 108 ∷ 105 ∷ 110 ∷ 107 ∷ 32 ∷ 52 ∷ 10 ∷ [])
    ++ (32 ∷ 32 ∷ 54 ∷ 32 ∷ 32 ∷ 53 ∷ 32 ∷ 105 ∷ 115 ∷ 45 ∷ 110 ∷ 111 ∷ 116 ∷ 32 ∷ 50 ∷ 32 ∷ 32 ∷ 51 ∷ 46 ∷ 52 ∷ 32 ∷ 102 ∷ 114 ∷ 111 ∷ 109 ∷ 32 ∷ 53 ∷ 32 ∷ 52 ∷ 10 ∷ [])
    ++ (32 ∷ 32 ∷ 55 ∷ 32 ∷ 32 ∷ 50 ∷ 32 ∷ 105 ∷ 115 ∷ 45 ∷ 110 ∷ 111 ∷ 116 ∷ 32 ∷ 53 ∷ 32 ∷ 32 ∷ 51 ∷ 46 ∷ 51 ∷ 32 ∷ 102 ∷ 114 ∷ 111 ∷ 109 ∷ 32 ∷ 54 ∷ 10 ∷ [])
    ++ (51 ∷ 32 ∷ 52 ∷ 32 ∷ 110 ∷ 111 ∷ 110 ∷ 101 ∷ 32 ∷ 52 ∷ 10 ∷ [])
    ++ (32 ∷ 32 ∷ 116 ∷ 104 ∷ 101 ∷ 32 ∷ 110 ∷ 101 ∷ 116 ∷ 32 ∷ 105 ∷ 115 ∷ 32 ∷ 115 ∷ 105 ∷ 108 ∷ 101 ∷ 110 ∷ 116 ∷ 10 ∷ [])
    ++ (51 ∷ 32 ∷ 48 ∷ 32 ∷ 114 ∷ 101 ∷ 102 ∷ 117 ∷ 115 ∷ 101 ∷ 100 ∷ 32 ∷ 52 ∷ 10 ∷ [])

pub M_reads : why_of M_file ≡ M_why
unfolding why_of entries_of entries entry_at u32s net_why questions_text check_plain chosen passing question_text asked_text because_text line_of digits rounds round command links link mark same why_text told_by distances levels level arcs reason_states descend next firsts reason_list flat derive cross climb steps place_of listed lines_text line_text front_text said_text link_text from_one from_two lines_of
M_reads = refl
