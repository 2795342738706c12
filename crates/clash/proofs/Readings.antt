-- Readings of the clash test, by computation.
use Rattle.std.specs.Prelude.{Ok, Err, Some, None}
use Prim.Native.Nat.{ℕ}
use mathlib.Core.Path.{◌≡◌, refl}
use mathlib.Core.List.{List, [], ◌∷◌}
use Rattle.theory.specs.Marks.{mark, link, links, command, round}
use Rattle.theory.specs.Scans.{same, rounds}
use Rattle.theory.specs.NetM.{M}
use Rattle.theory.specs.Origins.{chosen}
use Rattle.net.specs.Passing.{passing}
use Rattle.net.specs.declared.Refusal.TheVariants.{ShortBuffer}
use Rattle.clash.specs.Table.{clash_outcome, first_both, first_clash, clashed_by}

-- Eight bytes that a caller may have left.
abbrev left : List ℕ
left = 255 ∷ 7 ∷ 9 ∷ 3 ∷ 1 ∷ 128 ∷ 200 ∷ 201 ∷ []

-- An object that is and is not a kind clashes there.
pub clash_0_1 : clashed_by 1 2 (2 ∷ 3 ∷ []) 15 (9 ∷ 9 ∷ 9 ∷ 77 ∷ 78 ∷ []) ≡ clash_outcome (Ok (Some (0, 1))) (0 ∷ 0 ∷ 0 ∷ 77 ∷ 78 ∷ [])
unfolding first_clash first_both chosen passing rounds same round command links link mark
clash_0_1 = refl

-- Net M has no clash; a kind that is not itself clashes there.
pub clash_M : clashed_by 2 4 M 15 left ≡ clash_outcome (Ok None) (0 ∷ 0 ∷ 0 ∷ 0 ∷ 0 ∷ 0 ∷ 200 ∷ 201 ∷ [])
unfolding first_clash first_both chosen passing rounds same round command links link mark
clash_M = refl

pub clash_kind : clashed_by 0 1 (1 ∷ []) 15 (255 ∷ 254 ∷ []) ≡ clash_outcome (Ok (Some (0, 0))) (0 ∷ 254 ∷ [])
unfolding first_clash first_both chosen passing rounds same round command links link mark
clash_kind = refl

-- The smallest node and then its smallest kind: 1 clashes at 3 and 4, 2 at 3.
pub clash_smallest : clashed_by 3 2 (2054 ∷ 2055 ∷ 2056 ∷ 2057 ∷ 4102 ∷ 4103 ∷ []) 15 (1 ∷ 2 ∷ 3 ∷ 4 ∷ 5 ∷ 6 ∷ []) ≡ clash_outcome (Ok (Some (1, 3))) (0 ∷ 0 ∷ 0 ∷ 0 ∷ 0 ∷ 6 ∷ [])
unfolding first_clash first_both chosen passing rounds same round command links link mark
clash_smallest = refl

-- Not the smallest kind of all: 0 clashes at 3 alone, and 1 at 2.
pub clash_kind_of_node : clashed_by 2 2 (6 ∷ 7 ∷ 2052 ∷ 2053 ∷ []) 15 (9 ∷ 9 ∷ 9 ∷ 9 ∷ 77 ∷ []) ≡ clash_outcome (Ok (Some (0, 3))) (0 ∷ 0 ∷ 0 ∷ 0 ∷ 77 ∷ [])
unfolding first_clash first_both chosen passing rounds same round command links link mark
clash_kind_of_node = refl

-- A kind clashes where no object does: 2 is and is not 1.
pub clash_of_kinds : clashed_by 1 2 (4098 ∷ 4099 ∷ []) 15 (9 ∷ 9 ∷ 9 ∷ 77 ∷ []) ≡ clash_outcome (Ok (Some (2, 1))) (0 ∷ 0 ∷ 0 ∷ 77 ∷ [])
unfolding first_clash first_both chosen passing rounds same round command links link mark
clash_of_kinds = refl

-- A byte too few is number 5; no nodes need none.
pub clash_short_buffer : clashed_by 1 2 (2 ∷ 3 ∷ []) 15 (9 ∷ 9 ∷ []) ≡ clash_outcome (Err ShortBuffer) (9 ∷ 9 ∷ [])
unfolding first_clash first_both chosen passing rounds same round command links link mark
clash_short_buffer = refl

pub clash_empty : clashed_by 0 0 [] 15 (9 ∷ []) ≡ clash_outcome (Ok None) (9 ∷ [])
unfolding first_clash first_both chosen passing rounds same round command links link mark
clash_empty = refl

-- The clash of two origins: gone without either of them.
pub clash_origins : clashed_by 1 2 (2097154 ∷ 4194307 ∷ []) 6 (9 ∷ 9 ∷ 9 ∷ []) ≡ clash_outcome (Ok (Some (0, 1))) (0 ∷ 0 ∷ 0 ∷ [])
unfolding first_clash first_both chosen passing rounds same round command links link mark
clash_origins = refl

pub clash_one_origin : clashed_by 1 2 (2097154 ∷ 4194307 ∷ []) 13 (9 ∷ 9 ∷ 9 ∷ []) ≡ clash_outcome (Ok None) (0 ∷ 0 ∷ 0 ∷ [])
unfolding first_clash first_both chosen passing rounds same round command links link mark
clash_one_origin = refl
