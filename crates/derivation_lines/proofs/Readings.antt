-- Derivations by computation.
use mathlib.Core.Path.{◌≡◌, refl}
use mathlib.Core.Bool.{true, false}
use mathlib.Core.List.{[], ◌∷◌}
use Rattle.theory.specs.Words.{is, isnt}
use Rattle.theory.specs.Checks.{listed}
use Rattle.theory.specs.Origins.{chosen}
use Rattle.theory.specs.NetM.{M}
use Rattle.derivation_lines.specs.Lines.{line, link, r1, r2, r3, r4, r5}
use Rattle.derivation_lines.specs.Deriving.{place_of, steps, climb, cross, derive}
use Rattle.derivation_lines.specs.Tests.{grounds, all_follow, checks, derives}
use Rattle.derivation_lines.specs.Flat.{flat, lines_of, derive_list}

-- M, 0 ↛ 5, from the reason 2 3 0 2 3 4 5.
pub m_0_not_5 : derive_list 2 1 M (2 ∷ 3 ∷ 0 ∷ 2 ∷ 3 ∷ 4 ∷ 5 ∷ [])
    ≡ line 0 2 is (link 0)
    ∷ line 2 3 isnt (link 2)
    ∷ line 0 3 isnt (r4 0 1)
    ∷ line 4 3 is (link 3)
    ∷ line 0 4 isnt (r5 3 2)
    ∷ line 5 4 is (link 4)
    ∷ line 0 5 isnt (r5 5 4)
    ∷ []
unfolding derive cross climb steps place_of listed chosen
m_0_not_5 = refl

-- M, 2 ↛ 5, of a kind: 2 ↛ 3 is turned round, the second part goes down, and the end is turned again.
pub m_2_not_5 : derive_list 2 1 M (1 ∷ 3 ∷ 2 ∷ 3 ∷ 4 ∷ 5 ∷ [])
    ≡ line 2 3 isnt (link 2)
    ∷ line 3 2 isnt (r3 0)
    ∷ line 4 3 is (link 3)
    ∷ line 4 2 isnt (r4 2 1)
    ∷ line 5 4 is (link 4)
    ∷ line 5 2 isnt (r4 4 3)
    ∷ line 2 5 isnt (r3 5)
    ∷ []
unfolding derive cross climb steps place_of listed chosen
m_2_not_5 = refl

-- M, 1 → 3: 1 → 5, 5 → 4, 4 → 3.
pub m_1_is_3 : derive_list 2 1 M (4 ∷ 0 ∷ 1 ∷ 5 ∷ 4 ∷ 3 ∷ [])
    ≡ line 1 5 is (link 1)
    ∷ line 5 4 is (link 4)
    ∷ line 1 4 is (r2 0 1)
    ∷ line 4 3 is (link 3)
    ∷ line 1 3 is (r2 2 3)
    ∷ []
unfolding derive cross climb steps place_of listed chosen
m_1_is_3 = refl

-- A kind is itself by (3.1).
pub m_2_is_2 : derive_list 2 1 M (1 ∷ 0 ∷ 2 ∷ [])
    ≡ line 2 2 is r1 ∷ []
unfolding derive
m_2_is_2 = refl

-- A kind that is not itself by a link.
pub not_itself : derive_list 0 1 (1 ∷ []) (1 ∷ 1 ∷ 0 ∷ 0 ∷ [])
    ≡ line 0 0 isnt (link 0) ∷ []
unfolding derive cross climb steps place_of listed chosen
not_itself = refl

-- o = 1, k = 2, 0 → 1 and 2 ↛ 1: the crossing stands the other way round and is turned by (3.3).
pub turned_crossing : derive_list 1 1 (2 ∷ 4099 ∷ []) (2 ∷ 1 ∷ 0 ∷ 1 ∷ 2 ∷ [])
    ≡ line 0 1 is (link 0)
    ∷ line 2 1 isnt (link 1)
    ∷ line 1 2 isnt (r3 1)
    ∷ line 0 2 isnt (r4 0 2)
    ∷ []
unfolding derive cross climb steps place_of listed chosen
turned_crossing = refl

-- From a kind, with a first part, over a crossing that stands the other way round: it need not be turned.
-- o = 0, k = 4: 0 → 1, 2 ↛ 1, 3 → 2, so 0 ↛ 3.
pub kind_both_parts : derive_list 0 1 (2 ∷ 4099 ∷ 6148 ∷ []) (2 ∷ 2 ∷ 0 ∷ 1 ∷ 2 ∷ 3 ∷ [])
    ≡ line 0 1 is (link 0)
    ∷ line 2 1 isnt (link 1)
    ∷ line 3 2 is (link 2)
    ∷ line 3 1 isnt (r4 2 1)
    ∷ line 1 3 isnt (r3 3)
    ∷ line 0 3 isnt (r4 0 4)
    ∷ []
unfolding derive cross climb steps place_of listed chosen
kind_both_parts = refl

-- As numbers, four a line.
pub m_0_not_5_numbers : flat (derive_list 2 1 M (2 ∷ 3 ∷ 0 ∷ 2 ∷ 3 ∷ 4 ∷ 5 ∷ []))
    ≡ 4 ∷ 0 ∷ 0 ∷ 0
    ∷ 4103 ∷ 0 ∷ 2 ∷ 0
    ∷ 7 ∷ 4 ∷ 0 ∷ 1
    ∷ 8198 ∷ 0 ∷ 3 ∷ 0
    ∷ 9 ∷ 5 ∷ 3 ∷ 2
    ∷ 10248 ∷ 0 ∷ 4 ∷ 0
    ∷ 11 ∷ 5 ∷ 5 ∷ 4
    ∷ []
unfolding flat derive cross climb steps place_of listed chosen
m_0_not_5_numbers = refl

-- The check of lines from anybody: right ones, a line that comes from one below it, (3.5) on a kind, (3.3) on an object, and two ↛ that cancel.
pub right_lines : derives 2 4 1 M (lines_of (4 ∷ 0 ∷ 0 ∷ 0 ∷ 4103 ∷ 0 ∷ 2 ∷ 0 ∷ 7 ∷ 4 ∷ 0 ∷ 1 ∷ [])) 0 3 isnt ≡ true
unfolding lines_of all_follow grounds
right_lines = refl

pub from_below : checks 2 4 1 M (lines_of (7 ∷ 4 ∷ 1 ∷ 2 ∷ 4 ∷ 0 ∷ 0 ∷ 0 ∷ 4103 ∷ 0 ∷ 2 ∷ 0 ∷ [])) ≡ false
unfolding lines_of all_follow grounds
from_below = refl

pub object_rule_on_kind : checks 2 4 1 M (lines_of (8198 ∷ 0 ∷ 3 ∷ 0 ∷ 4103 ∷ 0 ∷ 2 ∷ 0 ∷ 4105 ∷ 5 ∷ 0 ∷ 1 ∷ [])) ≡ false
unfolding lines_of all_follow grounds
object_rule_on_kind = refl

pub object_turned : checks 1 2 1 (3 ∷ []) (lines_of (3 ∷ 0 ∷ 0 ∷ 0 ∷ 2049 ∷ 3 ∷ 0 ∷ 0 ∷ [])) ≡ false
unfolding lines_of all_follow grounds
object_turned = refl

pub two_nots : checks 0 3 1 (3 ∷ 2053 ∷ []) (lines_of (3 ∷ 0 ∷ 0 ∷ 0 ∷ 2053 ∷ 0 ∷ 1 ∷ 0 ∷ 4 ∷ 2 ∷ 0 ∷ 1 ∷ [])) ≡ false
unfolding lines_of all_follow grounds
two_nots = refl

-- A place that the rule does not use and that is not 0: a link with a second number, (3.1) with a first one, (3.3) with a second one.
pub link_with_two : checks 2 4 1 M (lines_of (4 ∷ 0 ∷ 0 ∷ 1 ∷ [])) ≡ false
unfolding lines_of all_follow grounds
link_with_two = refl

pub itself_with_one : (checks 2 4 1 M (lines_of (4100 ∷ 1 ∷ 0 ∷ 0 ∷ [])) ≡ true) × (checks 2 4 1 M (lines_of (4100 ∷ 1 ∷ 1 ∷ 0 ∷ [])) ≡ false)
unfolding lines_of all_follow grounds
itself_with_one = (refl, refl)

pub turned_with_two : (checks 2 4 1 M (lines_of (4103 ∷ 0 ∷ 2 ∷ 0 ∷ 6149 ∷ 3 ∷ 0 ∷ 0 ∷ [])) ≡ true) × (checks 2 4 1 M (lines_of (4103 ∷ 0 ∷ 2 ∷ 0 ∷ 6149 ∷ 3 ∷ 0 ∷ 1 ∷ [])) ≡ false)
unfolding lines_of all_follow grounds
turned_with_two = (refl, refl)

-- 0 → 2 by the origins 1, 0 and 2: the index counts in the whole list, and is that of the first chosen word. The word 0 is not chosen by the set of the origin 0.
pub first_chosen : (derive_list 2 1 (2097156 ∷ 4 ∷ 4194308 ∷ []) (2 ∷ 0 ∷ 0 ∷ 2 ∷ []) ≡ line 0 2 is (link 1) ∷ [])
    × (derive_list 2 4 (2097156 ∷ 4 ∷ 4194308 ∷ []) (2 ∷ 0 ∷ 0 ∷ 2 ∷ []) ≡ line 0 2 is (link 2) ∷ [])
    × (derive_list 2 7 (2097156 ∷ 4 ∷ 4194308 ∷ []) (2 ∷ 0 ∷ 0 ∷ 2 ∷ []) ≡ line 0 2 is (link 0) ∷ [])
unfolding derive cross climb steps place_of
first_chosen = (refl, refl, refl)

pub not_chosen : (checks 2 4 1 (2097156 ∷ 4 ∷ []) (lines_of (4 ∷ 0 ∷ 1 ∷ 0 ∷ [])) ≡ true) × (checks 2 4 1 (2097156 ∷ 4 ∷ []) (lines_of (4 ∷ 0 ∷ 0 ∷ 0 ∷ [])) ≡ false)
unfolding lines_of all_follow grounds
not_chosen = (refl, refl)
