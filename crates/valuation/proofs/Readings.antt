-- Readings of the valuation, by computation.
use Rattle.valuation.specs.declared.ValuationError.TheVariants.{Refused, ShortTable}
use Rattle.std.specs.Prelude.{Err, Ok}
use Prim.Native.Nat.{ℕ}
use mathlib.Core.Path.{◌≡◌, refl}
use mathlib.Core.List.{List, [], ◌∷◌, ◌++◌}
use Rattle.theory.specs.Marks.{mark, link, links, command, round}
use Rattle.theory.specs.Scans.{same, rounds}
use Rattle.theory.specs.NetM.{M}
use Rattle.theory.specs.Origins.{chosen}
use Rattle.theory.proofs.valuation.Readings.{values_m}
use Rattle.net_word.specs.declared.Cause.TheVariants.{Head}
use Rattle.net.specs.Passing.{passing}
use Rattle.net.specs.declared.Refusal.TheVariants.{TooManyNodes, IllegalWord, ShortBuffer, BadSet}
use Rattle.valuation.specs.Values.{value_row, value_rows, own_values}
use Rattle.valuation.specs.Table.{valuation_outcome, filled_by}

-- Twenty-three bytes that a caller may have left.
abbrev old : List ℕ
old = 9 ∷ 9 ∷ 9 ∷ 9 ∷ 9 ∷ 9 ∷ 9 ∷ 9 ∷ 9 ∷ 9 ∷ 9 ∷ 9 ∷ 9 ∷ 9 ∷ 9 ∷ 9 ∷ 9 ∷ 9 ∷ 9 ∷ 9 ∷ 9 ∷ 9 ∷ 9 ∷ []

-- The marks of the nodes are zero, and the byte past the table and the one past the marks are kept.
pub fill_M : filled_by 2 4 M 15 (old ++ 9 ∷ 77 ∷ []) (255 ∷ 7 ∷ 9 ∷ 3 ∷ 1 ∷ 128 ∷ 200 ∷ []) ≡ valuation_outcome (Ok tt) (values_m ++ 77 ∷ []) (0 ∷ 0 ∷ 0 ∷ 0 ∷ 0 ∷ 0 ∷ 200 ∷ [])
unfolding own_values value_rows value_row chosen passing rounds same round command links link mark
fill_M = refl

-- A byte too few is number 13, with nothing changed; number 5 comes before it.
pub fill_M_short : filled_by 2 4 M 15 old (255 ∷ 7 ∷ 9 ∷ 3 ∷ 1 ∷ 128 ∷ []) ≡ valuation_outcome (Err ShortTable) old (255 ∷ 7 ∷ 9 ∷ 3 ∷ 1 ∷ 128 ∷ [])
unfolding own_values value_rows value_row chosen passing rounds same round command links link mark
fill_M_short = refl

pub fill_M_unmarked : filled_by 2 4 M 15 old (255 ∷ 7 ∷ []) ≡ valuation_outcome (Err (Refused ShortBuffer)) old (255 ∷ 7 ∷ [])
unfolding own_values value_rows value_row chosen passing rounds same round command links link mark
fill_M_unmarked = refl

-- A kind that is not itself has both; without kinds no table is needed.
pub fill_both : filled_by 0 1 (1 ∷ []) 15 (9 ∷ []) (9 ∷ []) ≡ valuation_outcome (Ok tt) (3 ∷ []) (0 ∷ [])
unfolding own_values value_rows value_row chosen passing rounds same round command links link mark
fill_both = refl

pub fill_no_kinds : filled_by 1 0 [] 15 [] (9 ∷ []) ≡ valuation_outcome (Ok tt) [] (0 ∷ [])
unfolding own_values value_rows value_row chosen passing rounds same round command links link mark
fill_no_kinds = refl

-- One object, one kind, the link 0 → 1 of origin 1: without that origin nothing is said of the object.
pub fill_chosen : filled_by 1 1 (2097154 ∷ []) 2 (9 ∷ 9 ∷ []) (9 ∷ 9 ∷ []) ≡ valuation_outcome (Ok tt) (1 ∷ 1 ∷ []) (0 ∷ 0 ∷ [])
unfolding own_values value_rows value_row chosen passing rounds same round command links link mark
fill_chosen = refl

pub fill_without : filled_by 1 1 (2097154 ∷ []) 13 (9 ∷ 9 ∷ []) (9 ∷ 9 ∷ []) ≡ valuation_outcome (Ok tt) (0 ∷ 1 ∷ []) (0 ∷ 0 ∷ [])
unfolding own_values value_rows value_row chosen passing rounds same round command links link mark
fill_without = refl

-- Numbers 1, 15 and 3.
pub fill_many : filled_by 4294967295 1 [] 15 [] [] ≡ valuation_outcome (Err (Refused TooManyNodes)) [] []
unfolding own_values value_rows value_row chosen passing rounds same round command links link mark
fill_many = refl

pub fill_bad_set : filled_by 1 1 (2 ∷ 0 ∷ []) 16 [] [] ≡ valuation_outcome (Err (Refused BadSet)) [] []
unfolding own_values value_rows value_row chosen passing rounds same round command links link mark
fill_bad_set = refl

pub fill_illegal : filled_by 1 1 (2 ∷ 0 ∷ []) 15 [] [] ≡ valuation_outcome (Err (Refused (IllegalWord 1 Head))) [] []
unfolding own_values value_rows value_row chosen passing rounds same round command links link mark
fill_illegal = refl
