-- Verdicts on lines, by computation.
use Rattle.std.specs.Prelude.{Err, Ok, false, true}
use Prim.Native.Nat.{ℕ}
use mathlib.Core.Path.{◌≡◌, refl}
use mathlib.Core.List.{List, [], ◌∷◌}
use Rattle.theory.specs.NetM.{M}
use Rattle.theory.specs.Origins.{from}
use Rattle.net_word.specs.declared.Cause.TheVariants.{Head}
use Rattle.net.specs.Passing.{passing}
use Rattle.net.specs.declared.Refusal.TheVariants.{TooManyNodes, BadSet, IllegalWord, BadQuestion}
use Rattle.reason_check.specs.Table.{Verdict}
use Rattle.derivation_lines.specs.Tests.{grounds, all_follow}
use Rattle.derivation_lines.specs.Flat.{lines_of}
use Rattle.derivation_check.specs.Table.{lines_verdict}

-- The verdict on lines for x and y in the net M.
abbrev in_m : ℕ → ℕ → ℕ → List ℕ → Verdict
in_m x y sign l = lines_verdict 2 4 M 15 x y sign l

-- 0 → 2 by link 0, 2 ↛ 3 by link 2, 0 ↛ 3 by (3.4) from both, 4 → 3 by link 3, 0 ↛ 4 by (3.5).
pub five_lines : in_m 0 4 1 (4 ∷ 0 ∷ 0 ∷ 0 ∷ 4103 ∷ 0 ∷ 2 ∷ 0 ∷ 7 ∷ 4 ∷ 0 ∷ 1 ∷ 8198 ∷ 0 ∷ 3 ∷ 0 ∷ 9 ∷ 5 ∷ 3 ∷ 2 ∷ []) ≡ Ok true
unfolding passing lines_of all_follow grounds
five_lines = refl

-- The same lines for another statement, and cut in the middle of the last.
pub other_statement : in_m 0 3 1 (4 ∷ 0 ∷ 0 ∷ 0 ∷ 4103 ∷ 0 ∷ 2 ∷ 0 ∷ 7 ∷ 4 ∷ 0 ∷ 1 ∷ 8198 ∷ 0 ∷ 3 ∷ 0 ∷ 9 ∷ 5 ∷ 3 ∷ 2 ∷ []) ≡ Ok false
unfolding passing lines_of all_follow grounds
other_statement = refl

pub line_cut : in_m 0 2 0 (4 ∷ 0 ∷ 0 ∷ 0 ∷ 4 ∷ 0 ∷ []) ≡ Ok false
unfolding passing lines_of all_follow grounds
line_cut = refl

pub no_lines : in_m 0 2 0 [] ≡ Ok false
unfolding passing lines_of all_follow grounds
no_lines = refl

-- The wrong link's index, and one past the last word.
pub wrong_link : in_m 0 2 0 (4 ∷ 0 ∷ 1 ∷ 0 ∷ []) ≡ Ok false
unfolding passing lines_of all_follow grounds
wrong_link = refl

pub past_the_words : in_m 0 2 0 (4 ∷ 0 ∷ 5 ∷ 0 ∷ []) ≡ Ok false
unfolding passing lines_of all_follow grounds
past_the_words = refl

-- A line that cites itself, and one that cites a later one.
pub cites_itself : in_m 2 2 1 (4101 ∷ 3 ∷ 0 ∷ 0 ∷ []) ≡ Ok false
unfolding passing lines_of all_follow grounds
cites_itself = refl

pub cites_later : in_m 2 3 1 (6149 ∷ 3 ∷ 1 ∷ 0 ∷ 4103 ∷ 0 ∷ 2 ∷ 0 ∷ []) ≡ Ok false
unfolding passing lines_of all_follow grounds
cites_later = refl

-- (3.3) turns a kind's, 3 ↛ 2, and not what an object is not.
pub kind_turned : in_m 3 2 1 (4103 ∷ 0 ∷ 2 ∷ 0 ∷ 6149 ∷ 3 ∷ 0 ∷ 0 ∷ []) ≡ Ok true
unfolding passing lines_of all_follow grounds
kind_turned = refl

pub object_turned : lines_verdict 1 2 (3 ∷ []) 1 1 1 1 (3 ∷ 0 ∷ 0 ∷ 0 ∷ 2049 ∷ 3 ∷ 0 ∷ 0 ∷ []) ≡ Ok false
unfolding passing lines_of all_follow grounds
object_turned = refl

-- (3.5) for a kind: 4 → 3 and 2 ↛ 3 do not give 2 ↛ 4 by it.
pub object_rule_on_kind : in_m 2 4 1 (8198 ∷ 0 ∷ 3 ∷ 0 ∷ 4103 ∷ 0 ∷ 2 ∷ 0 ∷ 4105 ∷ 5 ∷ 0 ∷ 1 ∷ []) ≡ Ok false
unfolding passing lines_of all_follow grounds
object_rule_on_kind = refl

-- A kind is itself by (3.1), whose places are 0; a rule that there is not.
pub kind_itself : in_m 3 3 0 (6150 ∷ 1 ∷ 0 ∷ 0 ∷ []) ≡ Ok true
unfolding passing lines_of all_follow grounds
kind_itself = refl

pub place_not_0 : in_m 3 3 0 (6150 ∷ 1 ∷ 0 ∷ 7 ∷ []) ≡ Ok false
unfolding passing lines_of all_follow grounds
place_not_0 = refl

pub no_rule : in_m 3 3 0 (6150 ∷ 6 ∷ 0 ∷ 0 ∷ []) ≡ Ok false
unfolding passing lines_of all_follow grounds
no_rule = refl

-- 0 → 1 of the origins 1 and 0: the index counts in the whole list, and the word there has to be chosen.
pub chosen_index : lines_verdict 0 2 (from 1 2 ∷ 2 ∷ []) 1 0 1 0 (2 ∷ 0 ∷ 1 ∷ 0 ∷ []) ≡ Ok true
unfolding passing lines_of all_follow grounds
chosen_index = refl

pub unchosen_index : lines_verdict 0 2 (from 1 2 ∷ 2 ∷ []) 1 0 1 0 (2 ∷ 0 ∷ 0 ∷ 0 ∷ []) ≡ Ok false
unfolding passing lines_of all_follow grounds
unchosen_index = refl

-- A statement with an origin is none of a net.
pub origin_in_line : lines_verdict 0 2 (from 1 2 ∷ []) 2 0 1 0 (from 1 2 ∷ 0 ∷ 0 ∷ 0 ∷ []) ≡ Ok false
unfolding passing lines_of all_follow grounds
origin_in_line = refl

-- Numbers 1, 15, 3 and 4, in this order, before the lines are looked at.
pub lines_too_many_nodes : lines_verdict 1024 1 [] 16 2000 0 2 [] ≡ Err TooManyNodes
unfolding passing
lines_too_many_nodes = refl

pub lines_bad_set : lines_verdict 1 1 (0 ∷ []) 16 2000 0 2 [] ≡ Err BadSet
unfolding passing
lines_bad_set = refl

pub lines_illegal_word : lines_verdict 1 1 (2 ∷ 0 ∷ []) 1 2000 0 2 [] ≡ Err (IllegalWord 1 Head)
unfolding passing
lines_illegal_word = refl

pub lines_no_kind : in_m 0 1 0 (4 ∷ 0 ∷ 0 ∷ 0 ∷ []) ≡ Err BadQuestion
unfolding passing
lines_no_kind = refl
