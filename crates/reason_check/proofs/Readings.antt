-- Verdicts read off by computation.
use Rattle.std.specs.Prelude.{Err, Ok, false, true}
use Prim.Native.Nat.{ℕ}
use mathlib.Core.Path.{◌≡◌, refl}
use mathlib.Core.List.{List, [], ◌∷◌}
use Rattle.theory.specs.Checks.{listed, all_steps, passes}
use Rattle.theory.specs.NetM.{M}
use Rattle.theory.specs.Origins.{from, chosen}
use Rattle.net_word.specs.declared.Cause.TheVariants.{Head, Origin}
use Rattle.net.specs.Passing.{passing}
use Rattle.net.specs.declared.Refusal.TheVariants.{TooManyNodes, BadSet, IllegalWord, BadQuestion}
use Rattle.reason_check.specs.Table.{verdict, Verdict}

-- The verdict on a list for x and y in the net M.
abbrev in_m : ℕ → ℕ → ℕ → List ℕ → Verdict
in_m x y sign l = verdict 2 4 M 15 x y sign l

-- The shortest reason for 0 ↛ 5.
pub reads_reason : in_m 0 5 1 (2 ∷ 3 ∷ 0 ∷ 2 ∷ 3 ∷ 4 ∷ 5 ∷ []) ≡ Ok true
unfolding chosen passing passes all_steps listed
reads_reason = refl

-- The same list for the other sign.
pub other_sign : in_m 0 5 0 (2 ∷ 3 ∷ 0 ∷ 2 ∷ 3 ∷ 4 ∷ 5 ∷ []) ≡ Ok false
unfolding chosen passing passes all_steps listed
other_sign = refl

-- A node after the end.
pub node_after : in_m 0 5 1 (2 ∷ 3 ∷ 0 ∷ 2 ∷ 3 ∷ 4 ∷ 5 ∷ 5 ∷ []) ≡ Ok false
unfolding chosen passing passes all_steps listed
node_after = refl

-- Lists cut short.
pub empty : in_m 0 5 1 [] ≡ Ok false
unfolding chosen passing passes all_steps listed
empty = refl

pub one_place : in_m 0 5 1 (2 ∷ []) ≡ Ok false
unfolding chosen passing passes all_steps listed
one_place = refl

pub two_places : in_m 0 5 1 (2 ∷ 3 ∷ []) ≡ Ok false
unfolding chosen passing passes all_steps listed
two_places = refl

pub end_missing : in_m 0 5 1 (2 ∷ 3 ∷ 0 ∷ 2 ∷ 3 ∷ 4 ∷ []) ≡ Ok false
unfolding chosen passing passes all_steps listed
end_missing = refl

-- Sizes that do not fit: no first part, and no second part where the sign asks for one.
pub no_first_part : in_m 0 5 1 (0 ∷ 5 ∷ 0 ∷ 2 ∷ 3 ∷ 4 ∷ 5 ∷ []) ≡ Ok false
unfolding chosen passing passes all_steps listed
no_first_part = refl

pub no_second_part : in_m 0 2 1 (2 ∷ 0 ∷ 0 ∷ 2 ∷ []) ≡ Ok false
unfolding chosen passing passes all_steps listed
no_second_part = refl

-- Other ends than those asked.
pub other_start : in_m 1 5 1 (2 ∷ 3 ∷ 0 ∷ 2 ∷ 3 ∷ 4 ∷ 5 ∷ []) ≡ Ok false
unfolding chosen passing passes all_steps listed
other_start = refl

pub other_end : in_m 0 4 1 (2 ∷ 3 ∷ 0 ∷ 2 ∷ 3 ∷ 4 ∷ 5 ∷ []) ≡ Ok false
unfolding chosen passing passes all_steps listed
other_end = refl

-- A kind repeated in either part.
pub kind_repeated_first : in_m 0 5 1 (3 ∷ 3 ∷ 0 ∷ 2 ∷ 2 ∷ 3 ∷ 4 ∷ 5 ∷ []) ≡ Ok true
unfolding chosen passing passes all_steps listed
kind_repeated_first = refl

pub kind_repeated_second : in_m 0 5 1 (2 ∷ 4 ∷ 0 ∷ 2 ∷ 3 ∷ 4 ∷ 4 ∷ 5 ∷ []) ≡ Ok true
unfolding chosen passing passes all_steps listed
kind_repeated_second = refl

-- An object repeated.
pub object_repeated : in_m 0 5 1 (3 ∷ 3 ∷ 0 ∷ 0 ∷ 2 ∷ 3 ∷ 4 ∷ 5 ∷ []) ≡ Ok false
unfolding chosen passing passes all_steps listed
object_repeated = refl

-- A crossing with no link; one between a kind and itself needs a link too; and one taken from head to tail.
pub no_crossing : in_m 0 5 1 (1 ∷ 3 ∷ 0 ∷ 3 ∷ 4 ∷ 5 ∷ []) ≡ Ok false
unfolding chosen passing passes all_steps listed
no_crossing = refl

pub repeat_is_no_crossing : verdict 0 1 [] 15 0 0 1 (1 ∷ 1 ∷ 0 ∷ 0 ∷ []) ≡ Ok false
unfolding chosen passing passes all_steps listed
repeat_is_no_crossing = refl

pub crossing_to_itself : verdict 0 1 (1 ∷ []) 15 0 0 1 (1 ∷ 1 ∷ 0 ∷ 0 ∷ []) ≡ Ok true
unfolding chosen passing passes all_steps listed
crossing_to_itself = refl

pub crossing_turned : in_m 3 2 1 (1 ∷ 1 ∷ 3 ∷ 2 ∷ []) ≡ Ok true
unfolding chosen passing passes all_steps listed
crossing_turned = refl

-- A step of the second part read forwards, and one of the first part read backwards.
pub second_forwards : in_m 2 3 1 (1 ∷ 2 ∷ 2 ∷ 4 ∷ 3 ∷ []) ≡ Ok false
unfolding chosen passing passes all_steps listed
second_forwards = refl

pub first_backwards : in_m 3 4 0 (2 ∷ 0 ∷ 3 ∷ 4 ∷ []) ≡ Ok false
unfolding chosen passing passes all_steps listed
first_backwards = refl

-- A node outside the net.
pub outside : in_m 0 5 1 (2 ∷ 3 ∷ 0 ∷ 2 ∷ 60000 ∷ 4 ∷ 5 ∷ []) ≡ Ok false
unfolding chosen passing passes all_steps listed
outside = refl

-- A kind alone shows that it is itself; of an object nothing is asked (number 4).
pub kind_alone : in_m 3 3 0 (1 ∷ 0 ∷ 3 ∷ []) ≡ Ok true
unfolding chosen passing passes all_steps listed
kind_alone = refl

pub object_alone : in_m 0 0 0 (1 ∷ 0 ∷ 0 ∷ []) ≡ Err BadQuestion
unfolding chosen passing passes all_steps listed
object_alone = refl

-- Number 4 for a start outside the net and for a sign above 1.
pub no_node : in_m 6 5 1 (2 ∷ 3 ∷ 0 ∷ 2 ∷ 3 ∷ 4 ∷ 5 ∷ []) ≡ Err BadQuestion
unfolding chosen passing passes all_steps listed
no_node = refl

pub no_sign : in_m 0 5 2 (2 ∷ 3 ∷ 0 ∷ 2 ∷ 3 ∷ 4 ∷ 5 ∷ []) ≡ Err BadQuestion
unfolding chosen passing passes all_steps listed
no_sign = refl

-- Number 1 and number 3 come first, also where the statement is none.
pub reads_too_many_nodes : verdict 1024 1 [] 15 2000 0 2 [] ≡ Err TooManyNodes
unfolding chosen passing passes all_steps listed
reads_too_many_nodes = refl

pub reads_illegal_word : verdict 1 1 (2 ∷ 0 ∷ []) 15 2000 0 2 [] ≡ Err (IllegalWord 1 Head)
unfolding chosen passing passes all_steps listed
reads_illegal_word = refl

-- 0 → 1 was entered by origin 1, and is the only link: a step of it is one only with a set that has 1.
pub check_origin_chosen : verdict 0 2 (from 1 2 ∷ []) 2 0 1 0 (2 ∷ 0 ∷ 0 ∷ 1 ∷ []) ≡ Ok true
unfolding chosen passing passes all_steps listed
check_origin_chosen = refl

pub check_origin_unchosen : verdict 0 2 (from 1 2 ∷ []) 13 0 1 0 (2 ∷ 0 ∷ 0 ∷ 1 ∷ []) ≡ Ok false
unfolding chosen passing passes all_steps listed
check_origin_unchosen = refl

-- Steps of two origins in one path, with both and with one of them.
pub check_two_origins : verdict 0 3 (from 3 2 ∷ 2053 ∷ []) 9 0 2 1 (2 ∷ 1 ∷ 0 ∷ 1 ∷ 2 ∷ []) ≡ Ok true
unfolding chosen passing passes all_steps listed
check_two_origins = refl

pub check_one_origin : verdict 0 3 (from 3 2 ∷ 2053 ∷ []) 8 0 2 1 (2 ∷ 1 ∷ 0 ∷ 1 ∷ 2 ∷ []) ≡ Ok false
unfolding chosen passing passes all_steps listed
check_one_origin = refl

-- What two origins say is a step with either of them.
pub check_said_twice : verdict 0 2 (from 1 2 ∷ from 2 2 ∷ []) 4 0 1 0 (2 ∷ 0 ∷ 0 ∷ 1 ∷ []) ≡ Ok true
unfolding chosen passing passes all_steps listed
check_said_twice = refl

-- No origin is chosen: a kind is still itself, and may be repeated.
pub check_no_origin : verdict 0 2 (2 ∷ []) 0 1 1 0 (2 ∷ 0 ∷ 1 ∷ 1 ∷ []) ≡ Ok true
unfolding chosen passing passes all_steps listed
check_no_origin = refl

-- A set of 16 is number 15; it comes before an illegal word.
pub check_bad_set : verdict 1 1 (0 ∷ []) 16 2000 0 2 [] ≡ Err BadSet
unfolding chosen passing passes all_steps listed
check_bad_set = refl

-- An illegal word is refused though it is not chosen; its index counts in the whole list.
pub check_unchosen_illegal : verdict 1 1 (from 1 2 ∷ from 2 0 ∷ []) 1 2000 0 2 [] ≡ Err (IllegalWord 1 Head)
unfolding chosen passing passes all_steps listed
check_unchosen_illegal = refl

-- An origin above 3 is looked at before the tail.
pub check_origin_4 : verdict 1 1 (2 ∷ from 4 4096 ∷ []) 15 2000 0 2 [] ≡ Err (IllegalWord 1 Origin)
unfolding chosen passing passes all_steps listed
check_origin_4 = refl
