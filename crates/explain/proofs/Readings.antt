-- Explanations by computation: net M, the numbers and their order.
use Rattle.explain.specs.declared.ExplainError.TheVariants.{Refused, ShortLines, ShortReason, Unsupported}
use Rattle.std.specs.Prelude.{Err, Ok}
use mathlib.Core.Path.{◌≡◌, refl}
use mathlib.Core.List.{[], ◌∷◌}
use lib.ListN.{replicate}
use Rattle.theory.specs.Reasons.{never}
use Rattle.theory.specs.Searches.{arcs, level, levels, distances, next, descend, reason_states, firsts, reason_list}
use Rattle.theory.specs.Checks.{listed}
use Rattle.theory.specs.NetM.{M}
use Rattle.theory.specs.Origins.{from, chosen}
use Rattle.net.specs.Passing.{passing}
use Rattle.net.specs.Table.{reply}
use Rattle.net.specs.declared.Refusal.TheVariants.{BadSet, BadQuestion, ShortBuffer}
use Rattle.derivation_lines.specs.Deriving.{place_of, steps, climb, cross, derive}
use Rattle.derivation_lines.specs.Flat.{flat}
use Rattle.explain.specs.Table.{explain_outcome, explained, explained_reply}

-- M, 0 ↛ 5: seven lines, and a place after them stays as it was.
pub nought_is_not_five : explained 2 4 M 15 0 5 1 (replicate 12 7) (replicate 7 9) (replicate 29 8)
    ≡ explain_outcome (Ok (28, 7)) (4 ∷ never ∷ 3 ∷ never ∷ never ∷ never ∷ never ∷ never ∷ never ∷ 2 ∷ 1 ∷ 0 ∷ []) (2 ∷ 3 ∷ 0 ∷ 2 ∷ 3 ∷ 4 ∷ 5 ∷ [])
    (4 ∷ 0 ∷ 0 ∷ 0 ∷ 4103 ∷ 0 ∷ 2 ∷ 0 ∷ 7 ∷ 4 ∷ 0 ∷ 1 ∷ 8198 ∷ 0 ∷ 3 ∷ 0 ∷ 9 ∷ 5 ∷ 3 ∷ 2 ∷ 10248 ∷ 0 ∷ 4 ∷ 0 ∷ 11 ∷ 5 ∷ 5 ∷ 4 ∷ 8 ∷ [])
unfolding chosen passing distances levels level arcs reason_states descend next firsts reason_list flat derive cross climb steps place_of listed
nought_is_not_five = refl

-- Room for 27 numbers is number 8, which asks for 28: the nodes are written, the lines not.
pub lines_too_short : explained 2 4 M 15 0 5 1 (replicate 12 7) (replicate 7 9) (replicate 27 8)
    ≡ explain_outcome (Err (ShortLines 28)) (4 ∷ never ∷ 3 ∷ never ∷ never ∷ never ∷ never ∷ never ∷ never ∷ 2 ∷ 1 ∷ 0 ∷ []) (2 ∷ 3 ∷ 0 ∷ 2 ∷ 3 ∷ 4 ∷ 5 ∷ []) (replicate 27 8)
unfolding chosen passing distances levels level arcs reason_states descend next firsts reason_list flat derive cross climb steps place_of listed
lines_too_short = refl

-- Room for six nodes is number 8 of the reason, and comes first.
pub nodes_too_short : explained 2 4 M 15 0 5 1 (replicate 12 7) (replicate 6 9) []
    ≡ explain_outcome (Err (ShortReason 7)) (4 ∷ never ∷ 3 ∷ never ∷ never ∷ never ∷ never ∷ never ∷ never ∷ 2 ∷ 1 ∷ 0 ∷ []) (replicate 6 9) []
unfolding chosen passing distances levels level arcs reason_states descend next firsts reason_list flat derive cross climb steps place_of listed
nodes_too_short = refl

-- The second value of number 8 is 0 for the reason and 1 for the lines.
pub short_reason_reply : explained_reply (Err (ShortReason 7)) ≡ reply 8 7 0
short_reason_reply = refl

pub short_lines_reply : explained_reply (Err (ShortLines 28)) ≡ reply 8 28 1
short_lines_reply = refl

-- No path is number 7, and an object as the end number 4.
pub not_supported : explained 2 4 M 15 3 4 0 (replicate 12 7) [] []
    ≡ explain_outcome (Err Unsupported) (never ∷ 2 ∷ never ∷ never ∷ 0 ∷ 1 ∷ never ∷ never ∷ never ∷ never ∷ never ∷ never ∷ []) [] []
unfolding chosen passing distances levels level arcs reason_states descend next firsts reason_list
not_supported = refl

pub no_kind : explained 2 4 M 15 0 1 0 [] [] []
    ≡ explain_outcome (Err (Refused BadQuestion)) [] [] []
unfolding chosen passing
no_kind = refl

-- 0 → 1 of the origins 1, 0 and 2, then 1 ↛ 2 of origin 0: with the origin 0 alone the links are words 1 and 3 of the whole list.
pub whole_list : explained 1 2 (from 1 2 ∷ 2 ∷ from 2 2 ∷ 2053 ∷ []) 1 0 2 1 (replicate 6 7) (replicate 5 9) (replicate 12 8)
    ≡ explain_outcome (Ok (12, 5)) (2 ∷ 1 ∷ never ∷ never ∷ never ∷ 0 ∷ []) (2 ∷ 1 ∷ 0 ∷ 1 ∷ 2 ∷ []) (2 ∷ 0 ∷ 1 ∷ 0 ∷ 2053 ∷ 0 ∷ 3 ∷ 0 ∷ 5 ∷ 4 ∷ 0 ∷ 1 ∷ [])
unfolding chosen passing distances levels level arcs reason_states descend next firsts reason_list flat derive cross climb steps place_of listed
whole_list = refl

-- A kind is itself by (3.1), in one line.
pub kind_is_itself : explained 0 1 [] 0 0 0 0 (replicate 2 7) (replicate 3 9) (replicate 4 8)
    ≡ explain_outcome (Ok (4, 3)) (0 ∷ never ∷ []) (1 ∷ 0 ∷ 0 ∷ []) (0 ∷ 1 ∷ 0 ∷ 0 ∷ [])
unfolding chosen passing distances levels level arcs reason_states descend next firsts reason_list flat derive cross climb steps place_of listed
kind_is_itself = refl

-- A set of 16 is number 15, and a short scratch number 5, whatever the lists.
pub no_set : explained 2 4 M 16 0 5 1 [] [] []
    ≡ explain_outcome (Err (Refused BadSet)) [] [] []
unfolding passing
no_set = refl

pub short_scratch : explained 2 4 M 15 0 5 1 (replicate 11 7) [] []
    ≡ explain_outcome (Err (Refused ShortBuffer)) (replicate 11 7) [] []
unfolding passing
short_scratch = refl
