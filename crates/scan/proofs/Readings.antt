-- Readings of the scan, by computation.
use Rattle.scan.specs.declared.ScanError.TheVariants.{Refused, Spent}
use Rattle.std.specs.Prelude.{Err, Ok}
use mathlib.Core.Path.{◌≡◌, refl}
use mathlib.Core.List.{[], ◌∷◌}
use Rattle.theory.specs.Marks.{mark, link, links, command, round}
use Rattle.theory.specs.Scans.{after, same, rounds}
use Rattle.theory.specs.NetM.{M}
use Rattle.theory.specs.Origins.{chosen}
use Rattle.net_word.specs.declared.Cause.TheVariants.{Head, Origin}
use Rattle.net.specs.Passing.{passing}
use Rattle.net.specs.declared.Refusal.TheVariants.{TooManyNodes, BadSet, IllegalWord, BadQuestion, ShortBuffer}
use Rattle.scan.specs.Table.{scan_outcome, scanned}

-- Net M from 0, an object: budget 5 is enough.
pub budget_5 : scanned 2 4 M 15 0 5 (255 ∷ 7 ∷ 9 ∷ 3 ∷ 1 ∷ 128 ∷ []) ≡ scan_outcome (Ok 5) (5 ∷ 2 ∷ 4 ∷ 2 ∷ 2 ∷ 2 ∷ [])
unfolding chosen passing after rounds same round command links link mark
budget_5 = refl

-- Budget 4 is spent, with the same marks.
pub budget_4 : scanned 2 4 M 15 0 4 (255 ∷ 7 ∷ 9 ∷ 3 ∷ 1 ∷ 128 ∷ []) ≡ scan_outcome (Err (Spent 4)) (5 ∷ 2 ∷ 4 ∷ 2 ∷ 2 ∷ 2 ∷ [])
unfolding chosen passing after rounds same round command links link mark
budget_4 = refl

-- Budget 1 leaves the marks after one round.
pub budget_1 : scanned 2 4 M 15 0 1 (255 ∷ 7 ∷ 9 ∷ 3 ∷ 1 ∷ 128 ∷ []) ≡ scan_outcome (Err (Spent 1)) (5 ∷ 0 ∷ 4 ∷ 2 ∷ 0 ∷ 0 ∷ [])
unfolding chosen passing after rounds same round command links link mark
budget_1 = refl

-- Budget 0 leaves the start.
pub budget_0 : scanned 2 4 M 15 0 0 (255 ∷ 7 ∷ 9 ∷ 3 ∷ 1 ∷ 128 ∷ []) ≡ scan_outcome (Err (Spent 0)) (5 ∷ 0 ∷ 0 ∷ 0 ∷ 0 ∷ 0 ∷ [])
unfolding chosen passing after rounds same round command links link mark
budget_0 = refl

-- Two bytes past the nodes are kept.
pub budget_5_past : scanned 2 4 M 15 0 5 (255 ∷ 7 ∷ 9 ∷ 3 ∷ 1 ∷ 128 ∷ 200 ∷ 201 ∷ []) ≡ scan_outcome (Ok 5) (5 ∷ 2 ∷ 4 ∷ 2 ∷ 2 ∷ 2 ∷ 200 ∷ 201 ∷ [])
unfolding chosen passing after rounds same round command links link mark
budget_5_past = refl

pub budget_4_past : scanned 2 4 M 15 0 4 (255 ∷ 7 ∷ 9 ∷ 3 ∷ 1 ∷ 128 ∷ 200 ∷ 201 ∷ []) ≡ scan_outcome (Err (Spent 4)) (5 ∷ 2 ∷ 4 ∷ 2 ∷ 2 ∷ 2 ∷ 200 ∷ 201 ∷ [])
unfolding chosen passing after rounds same round command links link mark
budget_4_past = refl

pub budget_1_past : scanned 2 4 M 15 0 1 (255 ∷ 7 ∷ 9 ∷ 3 ∷ 1 ∷ 128 ∷ 200 ∷ 201 ∷ []) ≡ scan_outcome (Err (Spent 1)) (5 ∷ 0 ∷ 4 ∷ 2 ∷ 0 ∷ 0 ∷ 200 ∷ 201 ∷ [])
unfolding chosen passing after rounds same round command links link mark
budget_1_past = refl

-- Net M from 4, a kind: three rounds, within the bound 3N − 1 and within the largest budget.
pub from_kind : scanned 2 4 M 15 4 17 (255 ∷ 7 ∷ 9 ∷ 3 ∷ 1 ∷ 128 ∷ []) ≡ scan_outcome (Ok 3) (2 ∷ 1 ∷ 2 ∷ 4 ∷ 5 ∷ 1 ∷ [])
unfolding chosen passing after rounds same round command links link mark
from_kind = refl

pub largest_budget : scanned 2 4 M 15 4 4294967295 (255 ∷ 7 ∷ 9 ∷ 3 ∷ 1 ∷ 128 ∷ []) ≡ scan_outcome (Ok 3) (2 ∷ 1 ∷ 2 ∷ 4 ∷ 5 ∷ 1 ∷ [])
unfolding chosen passing after rounds same round command links link mark
largest_budget = refl

-- An object with yes and no at a kind, and nothing about the other kind.
pub both_marks : scanned 1 2 (2 ∷ 3 ∷ []) 15 0 8 (0 ∷ 0 ∷ 0 ∷ []) ≡ scan_outcome (Ok 2) (7 ∷ 6 ∷ 0 ∷ [])
unfolding chosen passing after rounds same round command links link mark
both_marks = refl

-- Two "is not" links do not cancel.
pub no_cancelling : scanned 0 3 (3 ∷ 2053 ∷ []) 15 0 8 (0 ∷ 0 ∷ 0 ∷ []) ≡ scan_outcome (Ok 2) (5 ∷ 2 ∷ 0 ∷ [])
unfolding chosen passing after rounds same round command links link mark
no_cancelling = refl

-- A kind that is not itself.
pub not_itself : scanned 0 1 (1 ∷ []) 15 0 2 (0 ∷ []) ≡ scan_outcome (Ok 2) (7 ∷ [])
unfolding chosen passing after rounds same round command links link mark
not_itself = refl

-- A kind without links.
pub no_links : scanned 0 1 [] 15 0 2 (0 ∷ []) ≡ scan_outcome (Ok 1) (5 ∷ [])
unfolding chosen passing after rounds same round command links link mark
no_links = refl

-- 1,024 nodes are accepted: the first thing wrong is the buffer.
pub nodes_1024 : scanned 1000 24 [] 15 0 1 [] ≡ scan_outcome (Err (Refused ShortBuffer)) []
unfolding chosen passing after rounds same round command links link mark
nodes_1024 = refl

-- 1,025 nodes are too many, and so are 4,294,967,295 objects and a kind.
pub nodes_1025 : scanned 1000 25 [] 15 0 1 [] ≡ scan_outcome (Err (Refused TooManyNodes)) []
unfolding chosen passing after rounds same round command links link mark
nodes_1025 = refl

pub nodes_2_32 : scanned 4294967295 1 [] 15 0 1 [] ≡ scan_outcome (Err (Refused TooManyNodes)) []
unfolding chosen passing after rounds same round command links link mark
nodes_2_32 = refl

-- With one object and one kind word 2 is legal, and word 0, whose head is the object, is not.
pub word_2_legal : scanned 1 1 (2 ∷ []) 15 0 4 (7 ∷ 7 ∷ []) ≡ scan_outcome (Ok 2) (5 ∷ 4 ∷ [])
unfolding chosen passing after rounds same round command links link mark
word_2_legal = refl

pub word_0_illegal : scanned 1 1 (0 ∷ []) 15 0 4 (7 ∷ 7 ∷ []) ≡ scan_outcome (Err (Refused (IllegalWord 0 Head))) (7 ∷ 7 ∷ [])
unfolding chosen passing after rounds same round command links link mark
word_0_illegal = refl

-- What is no node is no start.
pub from_no_node : scanned 2 4 M 15 6 17 (255 ∷ 7 ∷ 9 ∷ 3 ∷ 1 ∷ 128 ∷ []) ≡ scan_outcome (Err (Refused BadQuestion)) (255 ∷ 7 ∷ 9 ∷ 3 ∷ 1 ∷ 128 ∷ [])
unfolding chosen passing after rounds same round command links link mark
from_no_node = refl

-- A byte too few is number 5, and a bad start comes before it.
pub short_buffer : scanned 2 4 M 15 0 17 (255 ∷ 7 ∷ 9 ∷ 3 ∷ 1 ∷ []) ≡ scan_outcome (Err (Refused ShortBuffer)) (255 ∷ 7 ∷ 9 ∷ 3 ∷ 1 ∷ [])
unfolding chosen passing after rounds same round command links link mark
short_buffer = refl

pub bad_start_first : scanned 2 4 M 15 6 17 (255 ∷ 7 ∷ 9 ∷ 3 ∷ 1 ∷ []) ≡ scan_outcome (Err (Refused BadQuestion)) (255 ∷ 7 ∷ 9 ∷ 3 ∷ 1 ∷ [])
unfolding chosen passing after rounds same round command links link mark
bad_start_first = refl

-- ── origins ──

-- One object, two kinds: 0 → 1 from origin 0 and 1 → 2 from origin 2. With both origins the object is the second kind, without origin 2 it is not.
pub both_origins : scanned 1 2 (2 ∷ 4196356 ∷ []) 5 0 8 (0 ∷ 0 ∷ 0 ∷ []) ≡ scan_outcome (Ok 3) (5 ∷ 4 ∷ 4 ∷ [])
unfolding chosen passing after rounds same round command links link mark
both_origins = refl

pub one_origin : scanned 1 2 (2 ∷ 4196356 ∷ []) 11 0 8 (0 ∷ 0 ∷ 0 ∷ []) ≡ scan_outcome (Ok 2) (5 ∷ 4 ∷ 0 ∷ [])
unfolding chosen passing after rounds same round command links link mark
one_origin = refl

-- No origin: no links.
pub no_origin : scanned 1 2 (2 ∷ 4196356 ∷ []) 0 0 8 (0 ∷ 0 ∷ 0 ∷ []) ≡ scan_outcome (Ok 1) (5 ∷ 0 ∷ 0 ∷ [])
unfolding chosen passing after rounds same round command links link mark
no_origin = refl

-- A set above 15 is refused before an illegal word; an illegal word that is not chosen is refused, by its index in the whole list.
pub bad_set : scanned 1 2 (0 ∷ []) 16 0 8 (0 ∷ 0 ∷ 0 ∷ []) ≡ scan_outcome (Err (Refused BadSet)) (0 ∷ 0 ∷ 0 ∷ [])
unfolding chosen passing after rounds same round command links link mark
bad_set = refl

pub unchosen_illegal : scanned 1 2 (2 ∷ 2097152 ∷ []) 1 0 8 (0 ∷ 0 ∷ 0 ∷ []) ≡ scan_outcome (Err (Refused (IllegalWord 1 Head))) (0 ∷ 0 ∷ 0 ∷ [])
unfolding chosen passing after rounds same round command links link mark
unchosen_illegal = refl

-- Origin 4 is none, whatever the set.
pub origin_4 : scanned 1 2 (8388610 ∷ []) 15 0 8 (0 ∷ 0 ∷ 0 ∷ []) ≡ scan_outcome (Err (Refused (IllegalWord 0 Origin))) (0 ∷ 0 ∷ 0 ∷ [])
unfolding chosen passing after rounds same round command links link mark
origin_4 = refl
