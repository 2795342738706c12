-- Lines as text, by computation.
use mathlib.Core.Path.{◌≡◌, refl}
use mathlib.Core.Bool.{true, false}
use mathlib.Core.List.{[], ◌∷◌}
use Rattle.theory.specs.Words.{is, isnt}
use Rattle.theory.specs.Checks.{listed}
use Rattle.theory.specs.NetM.{M}
use Rattle.theory.specs.Origins.{chosen}
use Rattle.text_field.specs.Decimal.{digits}
use Rattle.derivation_lines.specs.Lines.{line, link, r1, r3}
use Rattle.derivation_lines.specs.Deriving.{place_of, steps, climb, cross, derive}
use Rattle.derivation_lines.specs.Flat.{derive_list}
use Rattle.why_line.specs.Text.{said_text, link_text, from_one, from_two, front_text, line_text, lines_text}

-- M, 0 ↛ 4, in five lines:
--   1  0 is 2      link 0
--   2  2 is-not 3  link 2
--   3  0 is-not 3  3.4 from 1 2
--   4  4 is 3      link 3
--   5  0 is-not 4  3.5 from 4 3
pub nought_is_not_four : lines_text false M 0 (derive_list 2 15 M (2 ∷ 2 ∷ 0 ∷ 2 ∷ 3 ∷ 4 ∷ []))
    ≡ 32 ∷ 32 ∷ 49 ∷ 32 ∷ 32 ∷ 48 ∷ 32 ∷ 105 ∷ 115 ∷ 32 ∷ 50 ∷ 32 ∷ 32 ∷ 32 ∷ 32 ∷ 32 ∷ 32 ∷ 108 ∷ 105 ∷ 110 ∷ 107 ∷ 32 ∷ 48 ∷ 10
    ∷ 32 ∷ 32 ∷ 50 ∷ 32 ∷ 32 ∷ 50 ∷ 32 ∷ 105 ∷ 115 ∷ 45 ∷ 110 ∷ 111 ∷ 116 ∷ 32 ∷ 51 ∷ 32 ∷ 32 ∷ 108 ∷ 105 ∷ 110 ∷ 107 ∷ 32 ∷ 50 ∷ 10
    ∷ 32 ∷ 32 ∷ 51 ∷ 32 ∷ 32 ∷ 48 ∷ 32 ∷ 105 ∷ 115 ∷ 45 ∷ 110 ∷ 111 ∷ 116 ∷ 32 ∷ 51 ∷ 32 ∷ 32 ∷ 51 ∷ 46 ∷ 52 ∷ 32 ∷ 102 ∷ 114 ∷ 111 ∷ 109 ∷ 32 ∷ 49 ∷ 32 ∷ 50 ∷ 10
    ∷ 32 ∷ 32 ∷ 52 ∷ 32 ∷ 32 ∷ 52 ∷ 32 ∷ 105 ∷ 115 ∷ 32 ∷ 51 ∷ 32 ∷ 32 ∷ 32 ∷ 32 ∷ 32 ∷ 32 ∷ 108 ∷ 105 ∷ 110 ∷ 107 ∷ 32 ∷ 51 ∷ 10
    ∷ 32 ∷ 32 ∷ 53 ∷ 32 ∷ 32 ∷ 48 ∷ 32 ∷ 105 ∷ 115 ∷ 45 ∷ 110 ∷ 111 ∷ 116 ∷ 32 ∷ 52 ∷ 32 ∷ 32 ∷ 51 ∷ 46 ∷ 53 ∷ 32 ∷ 102 ∷ 114 ∷ 111 ∷ 109 ∷ 32 ∷ 52 ∷ 32 ∷ 51 ∷ 10
    ∷ []
unfolding lines_text line_text front_text said_text link_text from_one from_two digits derive cross climb steps place_of listed chosen
nought_is_not_four = refl

-- A kind is itself: "  1  2 is 2      3.1".
pub two_is_two : line_text false M 0 (line 2 2 is r1)
    ≡ 32 ∷ 32 ∷ 49 ∷ 32 ∷ 32 ∷ 50 ∷ 32 ∷ 105 ∷ 115 ∷ 32 ∷ 50 ∷ 32 ∷ 32 ∷ 32 ∷ 32 ∷ 32 ∷ 32 ∷ 51 ∷ 46 ∷ 49 ∷ 10 ∷ []
unfolding line_text front_text said_text digits
two_is_two = refl

-- Origins are told: word 1 is of origin 2, "link 1 origin 2". And one line that a rule is used on: "3.3 from 10".
pub with_origin : line_text true (4 ∷ 4194308 ∷ []) 11 (line 0 2 is (link 1))
    ≡ 32 ∷ 32 ∷ 49 ∷ 50 ∷ 32 ∷ 32 ∷ 48 ∷ 32 ∷ 105 ∷ 115 ∷ 32 ∷ 50 ∷ 32 ∷ 32 ∷ 32 ∷ 32 ∷ 32 ∷ 32 ∷ 108 ∷ 105 ∷ 110 ∷ 107 ∷ 32 ∷ 49 ∷ 32 ∷ 111 ∷ 114 ∷ 105 ∷ 103 ∷ 105 ∷ 110 ∷ 32 ∷ 50 ∷ 10 ∷ []
unfolding line_text front_text said_text link_text digits
with_origin = refl

pub turned : line_text false [] 10 (line 3 2 isnt (r3 9))
    ≡ 32 ∷ 32 ∷ 49 ∷ 49 ∷ 32 ∷ 32 ∷ 51 ∷ 32 ∷ 105 ∷ 115 ∷ 45 ∷ 110 ∷ 111 ∷ 116 ∷ 32 ∷ 50 ∷ 32 ∷ 32 ∷ 51 ∷ 46 ∷ 51 ∷ 32 ∷ 102 ∷ 114 ∷ 111 ∷ 109 ∷ 32 ∷ 49 ∷ 48 ∷ 10 ∷ []
unfolding line_text front_text said_text from_one digits
turned = refl
