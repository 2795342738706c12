-- Reasons by computation: the paper's example, ties, the numbers and their order.
use Rattle.reason.specs.declared.ReasonError.TheVariants.{Refused, Short, Unsupported}
use Rattle.std.specs.Prelude.{Err, Ok}
use mathlib.Core.Path.{◌≡◌, refl}
use mathlib.Core.List.{[], ◌∷◌}
use lib.ListN.{replicate}
use Rattle.theory.specs.Reasons.{never}
use Rattle.theory.specs.Searches.{arcs, level, levels, distances, next, descend, reason_states, firsts, reason_list}
use Rattle.theory.specs.NetM.{M}
use Rattle.theory.specs.Origins.{from, chosen}
use Rattle.net_word.specs.declared.Cause.TheVariants.{Head, Origin}
use Rattle.net.specs.Passing.{passing}
use Rattle.net.specs.declared.Refusal.TheVariants.{TooManyNodes, BadSet, IllegalWord, BadQuestion, ShortBuffer}
use Rattle.reason.specs.Table.{reason_outcome, reasoned}

-- M, 0 ↛ 5: seven places; a place of the scratch past 2N stays as it was.
pub reason_of_m : reasoned 2 4 M 15 0 5 1 (replicate 13 7) (replicate 7 9)
    ≡ reason_outcome (Ok 7) (4 ∷ never ∷ 3 ∷ never ∷ never ∷ never ∷ never ∷ never ∷ never ∷ 2 ∷ 1 ∷ 0 ∷ 7 ∷ []) (2 ∷ 3 ∷ 0 ∷ 2 ∷ 3 ∷ 4 ∷ 5 ∷ [])
unfolding chosen passing distances levels level arcs reason_states descend next firsts reason_list
reason_of_m = refl

-- Places of the list past the reason stay as they were.
pub places_past_the_list : reasoned 2 4 M 15 0 5 1 (replicate 12 7) (replicate 9 9)
    ≡ reason_outcome (Ok 7) (4 ∷ never ∷ 3 ∷ never ∷ never ∷ never ∷ never ∷ never ∷ never ∷ 2 ∷ 1 ∷ 0 ∷ []) (2 ∷ 3 ∷ 0 ∷ 2 ∷ 3 ∷ 4 ∷ 5 ∷ 9 ∷ 9 ∷ [])
unfolding chosen passing distances levels level arcs reason_states descend next firsts reason_list
places_past_the_list = refl

-- Room for six is number 8, which asks for seven: the scratch is filled, the list unchanged.
pub list_too_short : reasoned 2 4 M 15 0 5 1 (replicate 13 7) (replicate 6 9)
    ≡ reason_outcome (Err (Short 7)) (4 ∷ never ∷ 3 ∷ never ∷ never ∷ never ∷ never ∷ never ∷ never ∷ 2 ∷ 1 ∷ 0 ∷ 7 ∷ []) (replicate 6 9)
unfolding chosen passing distances levels level arcs reason_states descend next firsts reason_list
list_too_short = refl

-- A kind is itself, by no link.
pub kind_is_itself : reasoned 2 4 M 15 2 2 0 (replicate 12 7) (replicate 3 9)
    ≡ reason_outcome (Ok 3) (1 ∷ never ∷ 0 ∷ never ∷ never ∷ never ∷ never ∷ never ∷ never ∷ never ∷ never ∷ never ∷ []) (1 ∷ 0 ∷ 2 ∷ [])
unfolding chosen passing distances levels level arcs reason_states descend next firsts reason_list
kind_is_itself = refl

-- A kind is not itself where a link says so: the crossing joins it to itself.
pub kind_is_not_itself : reasoned 0 1 (1 ∷ []) 15 0 0 1 (replicate 2 7) (replicate 4 9)
    ≡ reason_outcome (Ok 4) (1 ∷ 0 ∷ []) (1 ∷ 1 ∷ 0 ∷ 0 ∷ [])
unfolding chosen passing distances levels level arcs reason_states descend next firsts reason_list
kind_is_not_itself = refl

-- No path: number 7, the scratch is filled, the list unchanged.
pub not_supported : reasoned 2 4 M 15 3 4 0 (replicate 13 7) (replicate 3 9)
    ≡ reason_outcome (Err Unsupported) (never ∷ 2 ∷ never ∷ never ∷ 0 ∷ 1 ∷ never ∷ never ∷ never ∷ never ∷ never ∷ never ∷ 7 ∷ []) (replicate 3 9)
unfolding chosen passing distances levels level arcs reason_states descend next firsts reason_list
not_supported = refl

-- Number 7 comes before number 8.
pub not_supported_and_no_room : reasoned 2 4 M 15 3 4 0 (replicate 12 7) []
    ≡ reason_outcome (Err Unsupported) (never ∷ 2 ∷ never ∷ never ∷ 0 ∷ 1 ∷ never ∷ never ∷ never ∷ never ∷ never ∷ never ∷ []) []
unfolding chosen passing distances levels level arcs reason_states descend next firsts reason_list
not_supported_and_no_room = refl

-- 0 → 2 ↛ 3 and 0 ↛ 1 ← 3 have two links each: staying in the first part wins over the smaller node.
pub staying_beats_crossing : reasoned 0 4 (3 ∷ 6146 ∷ 4 ∷ 4103 ∷ []) 15 0 3 1 (replicate 8 7) (replicate 5 9)
    ≡ reason_outcome (Ok 5) (2 ∷ never ∷ 1 ∷ never ∷ never ∷ 1 ∷ never ∷ 0 ∷ []) (2 ∷ 1 ∷ 0 ∷ 2 ∷ 3 ∷ [])
unfolding chosen passing distances levels level arcs reason_states descend next firsts reason_list
staying_beats_crossing = refl

-- 0 → 2 → 3 and 0 → 1 → 3 have two links each: the smaller node wins.
pub smaller_node_wins : reasoned 0 4 (4 ∷ 4102 ∷ 2 ∷ 2054 ∷ []) 15 0 3 0 (replicate 8 7) (replicate 5 9)
    ≡ reason_outcome (Ok 5) (2 ∷ 1 ∷ 1 ∷ 0 ∷ never ∷ never ∷ never ∷ never ∷ []) (3 ∷ 0 ∷ 0 ∷ 1 ∷ 3 ∷ [])
unfolding chosen passing distances levels level arcs reason_states descend next firsts reason_list
smaller_node_wins = refl

-- An object stands in no second part: its link 0 ↛ 1 is no way from 1 back to it.
pub object_in_no_second_part : reasoned 1 2 (3 ∷ []) 15 1 1 1 (replicate 6 7) []
    ≡ reason_outcome (Err Unsupported) (1 ∷ never ∷ never ∷ never ∷ 0 ∷ never ∷ []) []
unfolding chosen passing distances levels level arcs reason_states descend next firsts reason_list
object_in_no_second_part = refl

-- Sign 2 is number 4; it comes before a short scratch.
pub sign_above_one : reasoned 2 4 M 15 0 5 2 [] []
    ≡ reason_outcome (Err (Refused BadQuestion)) [] []
unfolding chosen passing distances levels level arcs reason_states descend next firsts reason_list
sign_above_one = refl

-- So does a start that is no node.
pub no_such_node : reasoned 2 4 M 15 6 5 0 [] []
    ≡ reason_outcome (Err (Refused BadQuestion)) [] []
unfolding chosen passing distances levels level arcs reason_states descend next firsts reason_list
no_such_node = refl

-- So does an end that is an object.
pub no_kind : reasoned 2 4 M 15 0 1 0 [] []
    ≡ reason_outcome (Err (Refused BadQuestion)) [] []
unfolding chosen passing distances levels level arcs reason_states descend next firsts reason_list
no_kind = refl

-- A scratch of 2N − 1 places is number 5; it comes before a short list.
pub scratch_too_short : reasoned 2 4 M 15 0 5 1 (replicate 11 7) []
    ≡ reason_outcome (Err (Refused ShortBuffer)) (replicate 11 7) []
unfolding chosen passing distances levels level arcs reason_states descend next firsts reason_list
scratch_too_short = refl

-- Numbers 1 to 3 come before these.
pub illegal_word_first : reasoned 1 1 (2 ∷ 0 ∷ []) 15 9 9 9 [] []
    ≡ reason_outcome (Err (Refused (IllegalWord 1 Head))) [] []
unfolding chosen passing distances levels level arcs reason_states descend next firsts reason_list
illegal_word_first = refl

-- Number 1 comes before all.
pub too_many_nodes_first : reasoned 1 1024 (0 ∷ []) 15 9 9 9 [] []
    ≡ reason_outcome (Err (Refused TooManyNodes)) [] []
unfolding chosen passing distances levels level arcs reason_states descend next firsts reason_list
too_many_nodes_first = refl

-- 0 → 1 was entered by origin 1, and is the only link. A set that has 1 chooses it, and it is the reason;
pub reason_origin_chosen : reasoned 0 2 (from 1 2 ∷ []) 2 0 1 0 (replicate 4 7) (replicate 4 9)
    ≡ reason_outcome (Ok 4) (1 ∷ 0 ∷ never ∷ never ∷ []) (2 ∷ 0 ∷ 0 ∷ 1 ∷ [])
unfolding chosen passing distances levels level arcs reason_states descend next firsts reason_list
reason_origin_chosen = refl

-- with any other there is none, and nothing of the link is seen.
pub reason_origin_unchosen : reasoned 0 2 (from 1 2 ∷ []) 13 0 1 0 (replicate 4 7) (replicate 4 9)
    ≡ reason_outcome (Err Unsupported) (never ∷ 0 ∷ never ∷ never ∷ []) (replicate 4 9)
unfolding chosen passing distances levels level arcs reason_states descend next firsts reason_list
reason_origin_unchosen = refl

-- Two links of different origins make a reason only together.
pub reason_of_two_origins : reasoned 0 3 (from 3 2 ∷ 2052 ∷ []) 9 0 2 0 (replicate 6 7) (replicate 5 9)
    ≡ reason_outcome (Ok 5) (2 ∷ 1 ∷ 0 ∷ never ∷ never ∷ never ∷ []) (3 ∷ 0 ∷ 0 ∷ 1 ∷ 2 ∷ [])
unfolding chosen passing distances levels level arcs reason_states descend next firsts reason_list
reason_of_two_origins = refl

-- What two origins say counts once, and is there with either of them.
pub reason_said_twice : reasoned 0 2 (from 1 2 ∷ from 2 2 ∷ []) 6 0 1 0 (replicate 4 7) (replicate 4 9)
    ≡ reason_outcome (Ok 4) (1 ∷ 0 ∷ never ∷ never ∷ []) (2 ∷ 0 ∷ 0 ∷ 1 ∷ [])
unfolding chosen passing distances levels level arcs reason_states descend next firsts reason_list
reason_said_twice = refl

pub reason_said_once : reasoned 0 2 (from 1 2 ∷ from 2 2 ∷ []) 4 0 1 0 (replicate 4 7) (replicate 4 9)
    ≡ reason_outcome (Ok 4) (1 ∷ 0 ∷ never ∷ never ∷ []) (2 ∷ 0 ∷ 0 ∷ 1 ∷ [])
unfolding chosen passing distances levels level arcs reason_states descend next firsts reason_list
reason_said_once = refl

-- No origin is chosen: a kind is still itself.
pub reason_no_origin : reasoned 0 2 (2 ∷ []) 0 1 1 0 (replicate 4 7) (replicate 3 9)
    ≡ reason_outcome (Ok 3) (never ∷ 0 ∷ never ∷ never ∷ []) (1 ∷ 0 ∷ 1 ∷ [])
unfolding chosen passing distances levels level arcs reason_states descend next firsts reason_list
reason_no_origin = refl

-- A set of 16 is number 15; it comes before an illegal word.
pub reason_bad_set : reasoned 1 1 (0 ∷ []) 16 9 9 9 [] []
    ≡ reason_outcome (Err (Refused BadSet)) [] []
unfolding chosen passing distances levels level arcs reason_states descend next firsts reason_list
reason_bad_set = refl

-- An illegal word is refused though it is not chosen; its index counts in the whole list.
pub reason_unchosen_illegal : reasoned 1 1 (from 1 2 ∷ from 2 0 ∷ []) 1 9 9 9 [] []
    ≡ reason_outcome (Err (Refused (IllegalWord 1 Head))) [] []
unfolding chosen passing distances levels level arcs reason_states descend next firsts reason_list
reason_unchosen_illegal = refl

-- An origin above 3 is looked at before the tail.
pub reason_origin_4 : reasoned 1 1 (2 ∷ from 4 4096 ∷ []) 15 9 9 9 [] []
    ≡ reason_outcome (Err (Refused (IllegalWord 1 Origin))) [] []
unfolding chosen passing distances levels level arcs reason_states descend next firsts reason_list
reason_origin_4 = refl
