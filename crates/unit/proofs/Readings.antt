-- Readings of the marker unit, by computation.
use Rattle.unit.specs.declared.UnitError.TheVariants.{Faulty, Refused, Spent}
use Rattle.std.specs.Prelude.{Err, Ok}
use Prim.Native.Nat.{ℕ}
use mathlib.Core.Path.{◌≡◌, refl}
use mathlib.Core.Bool.{true}
use mathlib.Core.List.{List, [], ◌∷◌}
use Rattle.theory.specs.Marks.{mark, link, links, command, round}
use Rattle.theory.specs.Scans.{same, rounds}
use Rattle.theory.specs.Forward.{forward_scan}
use Rattle.theory.specs.NetM.{M}
use Rattle.theory.specs.Origins.{chosen}
use Rattle.net_word.specs.declared.Cause.TheVariants.{Head}
use Rattle.net.specs.Passing.{passing}
use Rattle.net.specs.declared.Refusal.TheVariants.{BadSet, IllegalWord, ShortBuffer}
use Rattle.unit_program.specs.Programs.{decode, parts}
use Rattle.unit_program.specs.Faults.{ends, sound_prefix}
use Rattle.unit_program.specs.Runs.{pass, passes, run_items}
use Rattle.unit_program.specs.Merged.{merged}
use Rattle.unit.specs.Table.{unit_outcome, simulated}

-- Eight bytes that a caller may have left.
abbrev left : List ℕ
left = 255 ∷ 7 ∷ 9 ∷ 3 ∷ 1 ∷ 128 ∷ 200 ∷ 201 ∷ []

-- Net M from 0: five rounds, so 28 commands. With 27 the same marks and number 6.
pub merged_M : simulated 2 4 M 15 (merged 0) 28 left ≡ unit_outcome (Ok 28) (5 ∷ 2 ∷ 4 ∷ 2 ∷ 2 ∷ 2 ∷ 200 ∷ 201 ∷ [])
unfolding chosen passing sound_prefix ends decode parts run_items passes pass command links link mark same
merged_M = refl

pub merged_M_27 : simulated 2 4 M 15 (merged 0) 27 left ≡ unit_outcome (Err (Spent 27)) (5 ∷ 2 ∷ 4 ∷ 2 ∷ 2 ∷ 2 ∷ 200 ∷ 201 ∷ [])
unfolding chosen passing sound_prefix ends decode parts run_items passes pass command links link mark same
merged_M_27 = refl

-- A second example: document 01's forward scan, the report's upscan, as a program. It runs 2 + 4 × 5 commands and leaves T where the merged scan leaves U.
abbrev upscan : List ℕ
upscan = 255 ∷ 16777216 ∷ 50331648 ∷ 33554432 ∷ 33620226 ∷ 33554689 ∷ 33554691 ∷ 67108864 ∷ []

pub upscan_M : simulated 2 4 M 15 upscan 22 left ≡ unit_outcome (Ok 22) (1 ∷ 2 ∷ 1 ∷ 2 ∷ 2 ∷ 2 ∷ 200 ∷ 201 ∷ [])
unfolding chosen passing sound_prefix ends decode parts run_items passes pass command links link mark same
upscan_M = refl

pub upscan_scan : forward_scan 6 M 0 12 ≡ record { done = true; count = 5; marks = 1 ∷ 2 ∷ 1 ∷ 2 ∷ 2 ∷ 2 ∷ [] }
unfolding rounds round command links link mark same
upscan_scan = refl

-- Without a budget nothing is done; a program without commands is done.
pub no_budget : simulated 1 0 [] 15 (255 ∷ []) 0 (9 ∷ []) ≡ unit_outcome (Err (Spent 0)) (9 ∷ [])
unfolding chosen passing sound_prefix ends decode parts run_items passes pass command links link mark same
no_budget = refl

pub no_commands : simulated 1 0 [] 15 [] 0 (9 ∷ []) ≡ unit_outcome (Ok 0) (9 ∷ [])
unfolding chosen passing sound_prefix ends decode parts run_items passes pass command links link mark same
no_commands = refl

-- A loop with nothing in it ends. One that clears and sets goes on until its budget is spent.
pub empty_loop : simulated 1 0 [] 15 (50331648 ∷ 67108864 ∷ []) 0 (9 ∷ []) ≡ unit_outcome (Ok 0) (9 ∷ [])
unfolding chosen passing sound_prefix ends decode parts run_items passes pass command links link mark same
empty_loop = refl

pub endless_loop : simulated 1 0 [] 15 (50331648 ∷ 1 ∷ 16777216 ∷ 67108864 ∷ []) 5 (8 ∷ []) ≡ unit_outcome (Err (Spent 5)) (8 ∷ [])
unfolding chosen passing sound_prefix ends decode parts run_items passes pass command links link mark same
endless_loop = refl

-- Number 16: a loop with no end is at fault before what is unknown inside it; a loop inside a loop; an end outside; a node that is none.
pub no_end : simulated 1 0 [] 15 (50331648 ∷ 0 ∷ []) 9 (8 ∷ []) ≡ unit_outcome (Err (Faulty 0)) (8 ∷ [])
unfolding chosen passing sound_prefix ends decode parts run_items passes pass command links link mark same
no_end = refl

pub loop_in_loop : simulated 1 0 [] 15 (50331648 ∷ 50331648 ∷ 67108864 ∷ []) 9 (8 ∷ []) ≡ unit_outcome (Err (Faulty 1)) (8 ∷ [])
unfolding chosen passing sound_prefix ends decode parts run_items passes pass command links link mark same
loop_in_loop = refl

pub end_outside : simulated 1 0 [] 15 (255 ∷ 67108864 ∷ []) 9 (8 ∷ []) ≡ unit_outcome (Err (Faulty 1)) (8 ∷ [])
unfolding chosen passing sound_prefix ends decode parts run_items passes pass command links link mark same
end_outside = refl

pub no_node : simulated 1 0 [] 15 (255 ∷ 16777217 ∷ []) 9 (8 ∷ []) ≡ unit_outcome (Err (Faulty 1)) (8 ∷ [])
unfolding chosen passing sound_prefix ends decode parts run_items passes pass command links link mark same
no_node = refl

-- Number 5 comes before number 16.
pub short_first : simulated 1 0 [] 15 (0 ∷ []) 9 [] ≡ unit_outcome (Err (Refused ShortBuffer)) []
unfolding chosen passing sound_prefix ends decode parts run_items passes pass command links link mark same
short_first = refl

-- The marks are read as they are lent: a command that tests marker 7 finds it, and marker 6 is put. Marks that no command is about are kept.
pub eighth_marker : simulated 0 2 (2 ∷ []) 15 (34014720 ∷ []) 1 (129 ∷ 16 ∷ []) ≡ unit_outcome (Ok 1) (129 ∷ 80 ∷ [])
unfolding chosen passing sound_prefix ends decode parts run_items passes pass command links link mark same
eighth_marker = refl

-- A link command tests all links against the marks at its beginning: along two links the marker goes one node further, in whatever order they stand.
pub one_further : simulated 0 3 (2 ∷ 2052 ∷ []) 15 (33554432 ∷ []) 1 (1 ∷ 0 ∷ 0 ∷ []) ≡ unit_outcome (Ok 1) (1 ∷ 1 ∷ 0 ∷ [])
unfolding chosen passing sound_prefix ends decode parts run_items passes pass command links link mark same
one_further = refl

-- A pass goes by all its commands, and not by the last: the first sets something new in the first pass alone.
pub whole_pass : simulated 0 2 (2 ∷ []) 15 (50331648 ∷ 33554432 ∷ 16777216 ∷ 67108864 ∷ []) 9 (1 ∷ 0 ∷ []) ≡ unit_outcome (Ok 4) (1 ∷ 1 ∷ [])
unfolding chosen passing sound_prefix ends decode parts run_items passes pass command links link mark same
whole_pass = refl

-- Number 6 comes with the marks after exactly so many commands: one of two sets was run.
pub one_of_two : simulated 1 0 [] 15 (16777216 ∷ 16842752 ∷ []) 1 (0 ∷ []) ≡ unit_outcome (Err (Spent 1)) (1 ∷ [])
unfolding chosen passing sound_prefix ends decode parts run_items passes pass command links link mark same
one_of_two = refl

-- The first place counts, whatever the fault: an end outside a loop before a word that is unknown.
pub first_place : simulated 1 0 [] 15 (67108864 ∷ 0 ∷ []) 9 (8 ∷ []) ≡ unit_outcome (Err (Faulty 0)) (8 ∷ [])
unfolding chosen passing sound_prefix ends decode parts run_items passes pass command links link mark same
first_place = refl

-- ── origins ──

-- One object, two kinds: 0 → 1 from origin 0 and 1 → 2 from origin 2. The link that the set does not choose carries nothing.
pub both_origins : simulated 1 2 (2 ∷ 4196356 ∷ []) 5 (50331648 ∷ 33554432 ∷ 67108864 ∷ []) 9 (1 ∷ 0 ∷ 0 ∷ []) ≡ unit_outcome (Ok 3) (1 ∷ 1 ∷ 1 ∷ [])
unfolding chosen passing sound_prefix ends decode parts run_items passes pass command links link mark same
both_origins = refl

pub one_origin : simulated 1 2 (2 ∷ 4196356 ∷ []) 11 (50331648 ∷ 33554432 ∷ 67108864 ∷ []) 9 (1 ∷ 0 ∷ 0 ∷ []) ≡ unit_outcome (Ok 2) (1 ∷ 1 ∷ 0 ∷ [])
unfolding chosen passing sound_prefix ends decode parts run_items passes pass command links link mark same
one_origin = refl

-- A set above 15 is refused before an illegal word; an illegal word that is not chosen is refused, by its index in the whole list, before a short buffer.
pub bad_set : simulated 1 2 (0 ∷ []) 16 (0 ∷ []) 8 [] ≡ unit_outcome (Err (Refused BadSet)) []
unfolding chosen passing sound_prefix ends decode parts run_items passes pass command links link mark same
bad_set = refl

pub unchosen_illegal : simulated 1 2 (2 ∷ 2097152 ∷ []) 1 (0 ∷ []) 8 [] ≡ unit_outcome (Err (Refused (IllegalWord 1 Head))) []
unfolding chosen passing sound_prefix ends decode parts run_items passes pass command links link mark same
unchosen_illegal = refl
