-- The largest sum that can occur, and the largest number of eight bytes, by computation.
use mathlib.Core.Path.{◌≡◌, refl}
use mathlib.Core.List.{[], ◌∷◌}
use Rattle.text_field.specs.Decimal.{digits}
use Rattle.fleet_line.specs.Line.{numbers_line}

pub largest_sum : numbers_line (68719476736 ∷ []) ≡ 54 ∷ 56 ∷ 55 ∷ 49 ∷ 57 ∷ 52 ∷ 55 ∷ 54 ∷ 55 ∷ 51 ∷ 54 ∷ 10 ∷ []
unfolding numbers_line digits
largest_sum = refl

pub largest_number : numbers_line (0 ∷ 18446744073709551615 ∷ []) ≡ 48 ∷ 32 ∷ 49 ∷ 56 ∷ 52 ∷ 52 ∷ 54 ∷ 55 ∷ 52 ∷ 52 ∷ 48 ∷ 55 ∷ 51 ∷ 55 ∷ 48 ∷ 57 ∷ 53 ∷ 53 ∷ 49 ∷ 54 ∷ 49 ∷ 53 ∷ 10 ∷ []
unfolding numbers_line digits
largest_number = refl
