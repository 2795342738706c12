-- Readings of the two checks by computation, on two objects and three kinds.
use Rattle.std.specs.Prelude.{Err, Ok}
use mathlib.Core.Path.{◌≡◌, refl}
use mathlib.Core.List.{[], ◌∷◌}
use Rattle.net_word.specs.declared.Cause.TheVariants.{Tail, Head, Origin}
use Rattle.net.specs.Passing.{passing}
use Rattle.net.specs.Table.{check_net, check_plain}
use Rattle.net.specs.declared.Refusal.TheVariants.{TooManyNodes, BadSet, IllegalWord}

-- 0 is 2, said by the origins 0 and 3; read with no origin, too, this is a net.
pub net : check_net 2 3 (4 ∷ 6291460 ∷ []) 0 ≡ Ok 5
unfolding check_net passing
net = refl

-- A set of 16 comes after the nodes and before the words.
pub nodes_before_set : check_net 1024 1 [] 16 ≡ Err TooManyNodes
unfolding check_net passing
nodes_before_set = refl

pub set_before_words : check_net 2 3 (0 ∷ []) 16 ≡ Err BadSet
unfolding check_net passing
set_before_words = refl

-- With the origin 0 alone, the word of origin 1 is not chosen. It counts and is tested all the same: the object 1 as the head, at index 1, and then a tail 5.
pub unchosen_head : check_net 2 3 (4 ∷ 2097154 ∷ 0 ∷ []) 1 ≡ Err (IllegalWord 1 Head)
unfolding check_net passing
unchosen_head = refl

pub unchosen_tail : check_net 2 3 (2097156 ∷ 2097156 ∷ 2107396 ∷ []) 1 ≡ Err (IllegalWord 2 Tail)
unfolding check_net passing
unchosen_tail = refl

-- The origin 4, told before the tail, which is no node either.
pub origin_first : check_net 2 3 (4 ∷ 8398850 ∷ []) 15 ≡ Err (IllegalWord 1 Origin)
unfolding check_net passing
origin_first = refl

-- Among plain words one of 2,097,152 or more has a tail that is no node, whatever its origin would be.
pub plain_from_1 : check_plain 2 3 (4 ∷ 2097156 ∷ []) ≡ Err (IllegalWord 1 Tail)
unfolding check_plain passing
plain_from_1 = refl

pub plain_from_4 : check_plain 2 3 (4 ∷ 8388612 ∷ []) ≡ Err (IllegalWord 1 Tail)
unfolding check_plain passing
plain_from_4 = refl
