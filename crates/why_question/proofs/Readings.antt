-- What is printed for questions, by computation.
use mathlib.Core.Path.{◌≡◌, refl}
use mathlib.Core.Bool.{true, false}
use mathlib.Core.List.{[], ◌∷◌}
use Rattle.theory.specs.Marks.{mark, link, links, command, round}
use Rattle.theory.specs.Scans.{same, rounds}
use Rattle.theory.specs.Searches.{arcs, level, levels, distances, next, descend, reason_states, firsts, reason_list}
use Rattle.theory.specs.Checks.{listed}
use Rattle.theory.specs.NetM.{M}
use Rattle.theory.specs.Origins.{from, chosen}
use Rattle.net.specs.Passing.{passing}
use Rattle.text_field.specs.Decimal.{digits}
use Rattle.ask_line.specs.Line.{line_of}
use Rattle.derivation_lines.specs.Deriving.{place_of, steps, climb, cross, derive}
use Rattle.derivation_lines.specs.Flat.{flat, lines_of}
use Rattle.why_line.specs.Text.{said_text, link_text, from_two, front_text, line_text, lines_text}
use Rattle.why_reason.specs.Told.{told_by, why_text}
use Rattle.why_question.specs.Because.{both_text, because_text, asked_text, question_text}

-- M, 0 4:
-- 0 4 no 5
--   1  0 is 2      link 0
--   2  2 is-not 3  link 2
--   3  0 is-not 3  3.4 from 1 2
--   4  4 is 3      link 3
--   5  0 is-not 4  3.5 from 4 3
pub nought_is_not_four : question_text false 2 4 M 15 0 4
    ≡ 48 ∷ 32 ∷ 52 ∷ 32 ∷ 110 ∷ 111 ∷ 32 ∷ 53 ∷ 10
    ∷ 32 ∷ 32 ∷ 49 ∷ 32 ∷ 32 ∷ 48 ∷ 32 ∷ 105 ∷ 115 ∷ 32 ∷ 50 ∷ 32 ∷ 32 ∷ 32 ∷ 32 ∷ 32 ∷ 32 ∷ 108 ∷ 105 ∷ 110 ∷ 107 ∷ 32 ∷ 48 ∷ 10
    ∷ 32 ∷ 32 ∷ 50 ∷ 32 ∷ 32 ∷ 50 ∷ 32 ∷ 105 ∷ 115 ∷ 45 ∷ 110 ∷ 111 ∷ 116 ∷ 32 ∷ 51 ∷ 32 ∷ 32 ∷ 108 ∷ 105 ∷ 110 ∷ 107 ∷ 32 ∷ 50 ∷ 10
    ∷ 32 ∷ 32 ∷ 51 ∷ 32 ∷ 32 ∷ 48 ∷ 32 ∷ 105 ∷ 115 ∷ 45 ∷ 110 ∷ 111 ∷ 116 ∷ 32 ∷ 51 ∷ 32 ∷ 32 ∷ 51 ∷ 46 ∷ 52 ∷ 32 ∷ 102 ∷ 114 ∷ 111 ∷ 109 ∷ 32 ∷ 49 ∷ 32 ∷ 50 ∷ 10
    ∷ 32 ∷ 32 ∷ 52 ∷ 32 ∷ 32 ∷ 52 ∷ 32 ∷ 105 ∷ 115 ∷ 32 ∷ 51 ∷ 32 ∷ 32 ∷ 32 ∷ 32 ∷ 32 ∷ 32 ∷ 108 ∷ 105 ∷ 110 ∷ 107 ∷ 32 ∷ 51 ∷ 10
    ∷ 32 ∷ 32 ∷ 53 ∷ 32 ∷ 32 ∷ 48 ∷ 32 ∷ 105 ∷ 115 ∷ 45 ∷ 110 ∷ 111 ∷ 116 ∷ 32 ∷ 52 ∷ 32 ∷ 32 ∷ 51 ∷ 46 ∷ 53 ∷ 32 ∷ 102 ∷ 114 ∷ 111 ∷ 109 ∷ 32 ∷ 52 ∷ 32 ∷ 51 ∷ 10
    ∷ []
unfolding question_text asked_text because_text chosen passing rounds same round command links link mark digits line_of why_text told_by distances levels level arcs reason_states descend next firsts reason_list flat lines_of lines_text line_text front_text said_text link_text derive cross climb steps place_of listed from_two
nought_is_not_four = refl

-- M, 3 4:
-- 3 4 none 4
--   the net is silent
pub silent_on_three_four : question_text false 2 4 M 15 3 4
    ≡ 51 ∷ 32 ∷ 52 ∷ 32 ∷ 110 ∷ 111 ∷ 110 ∷ 101 ∷ 32 ∷ 52 ∷ 10
    ∷ 32 ∷ 32 ∷ 116 ∷ 104 ∷ 101 ∷ 32 ∷ 110 ∷ 101 ∷ 116 ∷ 32 ∷ 105 ∷ 115 ∷ 32 ∷ 115 ∷ 105 ∷ 108 ∷ 101 ∷ 110 ∷ 116 ∷ 10
    ∷ []
unfolding question_text asked_text because_text chosen passing rounds same round command links link mark digits line_of
silent_on_three_four = refl

-- M, 3 0, where 0 is no kind:
-- 3 0 refused 4
pub nought_is_no_kind : question_text false 2 4 M 15 3 0
    ≡ 51 ∷ 32 ∷ 48 ∷ 32 ∷ 114 ∷ 101 ∷ 102 ∷ 117 ∷ 115 ∷ 101 ∷ 100 ∷ 32 ∷ 52 ∷ 10 ∷ []
unfolding question_text asked_text passing digits line_of
nought_is_no_kind = refl

-- 0 → 1, and 0 ↛ 1 of origin 2, with origins told:
-- 0 1 both 2
--   1  0 is 1      link 0 origin 0
--   1  0 is-not 1  link 1 origin 2
pub both : question_text true 1 1 (2 ∷ from 2 3 ∷ []) 15 0 1
    ≡ 48 ∷ 32 ∷ 49 ∷ 32 ∷ 98 ∷ 111 ∷ 116 ∷ 104 ∷ 32 ∷ 50 ∷ 10
    ∷ 32 ∷ 32 ∷ 49 ∷ 32 ∷ 32 ∷ 48 ∷ 32 ∷ 105 ∷ 115 ∷ 32 ∷ 49 ∷ 32 ∷ 32 ∷ 32 ∷ 32 ∷ 32 ∷ 32 ∷ 108 ∷ 105 ∷ 110 ∷ 107 ∷ 32 ∷ 48 ∷ 32 ∷ 111 ∷ 114 ∷ 105 ∷ 103 ∷ 105 ∷ 110 ∷ 32 ∷ 48 ∷ 10
    ∷ 32 ∷ 32 ∷ 49 ∷ 32 ∷ 32 ∷ 48 ∷ 32 ∷ 105 ∷ 115 ∷ 45 ∷ 110 ∷ 111 ∷ 116 ∷ 32 ∷ 49 ∷ 32 ∷ 32 ∷ 108 ∷ 105 ∷ 110 ∷ 107 ∷ 32 ∷ 49 ∷ 32 ∷ 111 ∷ 114 ∷ 105 ∷ 103 ∷ 105 ∷ 110 ∷ 32 ∷ 50 ∷ 10
    ∷ []
unfolding question_text asked_text because_text both_text chosen passing rounds same round command links link mark digits line_of why_text told_by distances levels level arcs reason_states descend next firsts reason_list flat lines_of lines_text line_text front_text said_text link_text derive cross climb steps place_of listed
both = refl
