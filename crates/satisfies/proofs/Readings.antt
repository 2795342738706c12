-- Readings of the test, by computation: in net M's own valuation, and of what is no table.
use Rattle.satisfies.specs.declared.TestError.TheVariants.{BadTable, Refused}
use Rattle.std.specs.Prelude.{Err, Ok, false, true}
use mathlib.Core.Path.{◌≡◌, refl}
use mathlib.Core.List.{[], ◌∷◌}
use Rattle.theory.specs.Valuations.{everywhere}
use Rattle.theory.proofs.valuation.Readings.{values_m}
use Rattle.net.specs.declared.Refusal.TheVariants.{TooManyNodes, BadQuestion}
use Rattle.satisfies.specs.Table.{low_bytes, tested_by}

-- Of 3 and 4 nothing is supported, and neither statement holds.
pub none_3_4 : tested_by 2 4 values_m 3 4 0 ≡ Ok false
unfolding low_bytes everywhere
none_3_4 = refl

pub none_3_4_not : tested_by 2 4 values_m 3 4 1 ≡ Ok false
unfolding low_bytes everywhere
none_3_4_not = refl

pub yes_5_3 : tested_by 2 4 values_m 5 3 0 ≡ Ok true
unfolding low_bytes everywhere
yes_5_3 = refl

pub no_0_5 : tested_by 2 4 values_m 0 5 1 ≡ Ok true
unfolding low_bytes everywhere
no_0_5 = refl

-- Number 13: a byte too few, or one above 3. A byte past the table is not looked at.
pub too_short : tested_by 0 1 [] 0 0 0 ≡ Err BadTable
unfolding low_bytes everywhere
too_short = refl

pub too_high : tested_by 0 1 (4 ∷ []) 0 0 0 ≡ Err BadTable
unfolding low_bytes everywhere
too_high = refl

pub past : tested_by 0 1 (3 ∷ 4 ∷ []) 0 0 1 ≡ Ok true
unfolding low_bytes everywhere
past = refl

-- Number 4 comes before number 13, and number 1 before number 4.
pub bad_first : tested_by 1 1 [] 0 0 0 ≡ Err (Refused BadQuestion)
unfolding low_bytes everywhere
bad_first = refl

pub bad_sign : tested_by 1 1 [] 0 1 2 ≡ Err (Refused BadQuestion)
unfolding low_bytes everywhere
bad_sign = refl

pub many_first : tested_by 4294967295 1 [] 0 0 2 ≡ Err (Refused TooManyNodes)
unfolding low_bytes everywhere
many_first = refl
