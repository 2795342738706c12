-- Readings of the definitions by computation, on net M and on small nets.
use mathlib.Core.Path.{◌≡◌, refl}
use mathlib.Core.Bool.{true, false}
use mathlib.Core.List.{[], ◌∷◌}
use Rattle.theory.specs.Words.{isnt}
use Rattle.theory.specs.Marks.{mark, link, links, command, round}
use Rattle.theory.specs.Scans.{same, rounds, scan}
use Rattle.theory.specs.Forward.{forward_scan}
use Rattle.theory.specs.Completion.{row, rows, complete}
use Rattle.theory.specs.Searches.{arcs, level, levels, distances, next, descend, reason_states, firsts, reason_list}
use Rattle.theory.specs.NetM.{M}

-- ── the scan, on M and on nets of up to three nodes ──
pub from_0 : scan 6 M 0 5 ≡ record { done = true; count = 5; marks = 5 ∷ 2 ∷ 4 ∷ 2 ∷ 2 ∷ 2 ∷ [] }
unfolding rounds round command links link mark same
from_0 = refl

-- A budget of 4 is spent with those same marks.
pub from_0_spent : scan 6 M 0 4 ≡ record { done = false; count = 4; marks = 5 ∷ 2 ∷ 4 ∷ 2 ∷ 2 ∷ 2 ∷ [] }
unfolding rounds round command links link mark same
from_0_spent = refl

pub from_0_one : scan 6 M 0 1 ≡ record { done = false; count = 1; marks = 5 ∷ 0 ∷ 4 ∷ 2 ∷ 0 ∷ 0 ∷ [] }
unfolding rounds round command links link mark same
from_0_one = refl

-- The fourth question of M, about 3 and 4.
pub from_3 : scan 6 M 3 17 ≡ record { done = true; count = 4; marks = 2 ∷ 1 ∷ 2 ∷ 5 ∷ 1 ∷ 1 ∷ [] }
unfolding rounds round command links link mark same
from_3 = refl

pub from_4 : scan 6 M 4 17 ≡ record { done = true; count = 3; marks = 2 ∷ 1 ∷ 2 ∷ 4 ∷ 5 ∷ 1 ∷ [] }
unfolding rounds round command links link mark same
from_4 = refl

-- Object 0, kinds 1 and 2: 0 → 1 and 0 ↛ 1.
pub yes_and_no : scan 3 (2 ∷ 3 ∷ []) 0 8 ≡ record { done = true; count = 2; marks = 7 ∷ 6 ∷ 0 ∷ [] }
unfolding rounds round command links link mark same
yes_and_no = refl

-- Kinds 0 ↛ 1 and 1 ↛ 2: two ↛ in a row say nothing about 0 and 2.
pub two_isnt : scan 3 (3 ∷ 2053 ∷ []) 0 8 ≡ record { done = true; count = 2; marks = 5 ∷ 2 ∷ 0 ∷ [] }
unfolding rounds round command links link mark same
two_isnt = refl

-- One kind that is not itself, and one about which nothing is said.
pub not_itself : scan 1 (1 ∷ []) 0 2 ≡ record { done = true; count = 2; marks = 7 ∷ [] }
unfolding rounds round command links link mark same
not_itself = refl

pub alone : scan 1 [] 0 2 ≡ record { done = true; count = 1; marks = 5 ∷ [] }
unfolding rounds round command links link mark same
alone = refl

-- Kinds 0 → 1, 3 → 2, 5 → 4, 1 ↛ 2 and 4 ↛ 1. In one round from 0 both ↛ links find the U that the second command put at 1, and the F that they
-- put at 2 and 4 waits for the next round. So the second and the third command run before the last two.
pub commands_in_order : scan 6 (2 ∷ 6148 ∷ 10248 ∷ 2053 ∷ 8195 ∷ []) 0 1 ≡ record { done = false; count = 1; marks = 5 ∷ 4 ∷ 2 ∷ 0 ∷ 2 ∷ 0 ∷ [] }
unfolding rounds round command links link mark same
commands_in_order = refl

-- ── document 01's forward scan, on M ──
pub forward_from_0 : forward_scan 6 M 0 5 ≡ record { done = true; count = 5; marks = 1 ∷ 2 ∷ 1 ∷ 2 ∷ 2 ∷ 2 ∷ [] }
unfolding rounds round command links link mark same
forward_from_0 = refl

pub forward_from_0_one : forward_scan 6 M 0 1 ≡ record { done = false; count = 1; marks = 1 ∷ 0 ∷ 1 ∷ 2 ∷ 0 ∷ 0 ∷ [] }
unfolding rounds round command links link mark same
forward_from_0_one = refl

-- ── completion and reason, on M ──
pub completed : complete 2 4 M ≡ 4 ∷ 7 ∷ 9 ∷ 11 ∷ 2053 ∷ 2054 ∷ 2056 ∷ 2058 ∷ 4100 ∷ 4103 ∷ 4105 ∷ 4107 ∷ 6149 ∷ 6150 ∷ 8197 ∷ 8198 ∷ 8200 ∷ 10245 ∷ 10246 ∷ 10248 ∷ 10250 ∷ []
unfolding complete rows row rounds round command links link mark same
completed = refl

pub reason : reason_list 6 0 (reason_states 6 isnt M 0 5) ≡ 2 ∷ 3 ∷ 0 ∷ 2 ∷ 3 ∷ 4 ∷ 5 ∷ []
unfolding reason_list reason_states firsts descend next distances levels level arcs
reason = refl
