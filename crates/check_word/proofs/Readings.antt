-- Words of a net with two objects and three kinds, and at the limits.
use Rattle.std.specs.Prelude.{Err, Ok}
use mathlib.Core.Path.{◌≡◌, refl}
use Rattle.net_word.specs.declared.Cause.TheVariants.{Tail, Head, Origin}
use Rattle.net.specs.declared.Refusal.TheVariants.{TooManyNodes, IllegalWord}
use Rattle.check_word.specs.Table.{check_word}

-- 0 is 2.
pub legal : check_word 2 3 4 ≡ Ok tt
legal = refl

-- Tail 5 of five nodes.
pub tail_outside : check_word 2 3 10244 ≡ Err (IllegalWord 0 Tail)
tail_outside = refl

-- An object as the head, and a head past the nodes.
pub head_object : check_word 2 3 2 ≡ Err (IllegalWord 0 Head)
head_object = refl

pub head_outside : check_word 2 3 10 ≡ Err (IllegalWord 0 Head)
head_outside = refl

-- Both ends are wrong: the tail is told.
pub tail_first : check_word 2 3 10242 ≡ Err (IllegalWord 0 Tail)
tail_first = refl

-- The same words of the origins 3, 1 and 2; and of the origin 4, which is told before the tail.
pub legal_from_3 : check_word 2 3 6291460 ≡ Ok tt
legal_from_3 = refl

pub tail_from_1 : check_word 2 3 2107396 ≡ Err (IllegalWord 0 Tail)
tail_from_1 = refl

pub head_from_2 : check_word 2 3 4194306 ≡ Err (IllegalWord 0 Head)
head_from_2 = refl

pub origin_4 : check_word 2 3 8388612 ≡ Err (IllegalWord 0 Origin)
origin_4 = refl

pub origin_first : check_word 2 3 8398850 ≡ Err (IllegalWord 0 Origin)
origin_first = refl

-- 1,025 nodes.
pub nodes_first : check_word 1024 1 0 ≡ Err TooManyNodes
nodes_first = refl
