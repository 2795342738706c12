-- Readings of the reader by computation: files of three entries and of four, right and malformed.
use Prim.Native.Nat.{ℕ, ◌/◌, ◌%◌}
use mathlib.Core.Path.{◌≡◌, refl}
use mathlib.Core.List.{List, [], ◌∷◌, ◌++◌}
use lib.ListN.{take, replicate}
use Rattle.std.specs.Prelude.{Ok, Err}
use Rattle.netfile_entry.specs.Entries.{entries, entry_at}
use Rattle.netfile.specs.Contents.{malformed_at, entries_of, contents_of, bodies_of}

-- The bytes of a number of four.
abbrev four : ℕ → List ℕ
four n = n % 256 ∷ n / 256 % 256 ∷ n / 65536 % 256 ∷ n / 16777216 ∷ []

-- One object and one kind, one word and one question: in three entries,
abbrev three_file : List ℕ
three_file = four 24 ++ four 8 ++ four 32 ++ four 4 ++ four 36 ++ four 4 ++ four 1 ++ four 1 ++ four 2 ++ four 65536

pub three_contents : contents_of three_file ≡ Ok (36, 40)
unfolding entries_of entries entry_at
three_contents = refl

pub three_bodies : bodies_of three_file ≡ (four 1 ++ four 1) ∷ four 2 ∷ four 65536 ∷ [] ∷ []
unfolding entries_of entries entry_at
three_bodies = refl

-- and in four, with such a fourth start and length, the bytes of a set, and bytes behind it.
abbrev four_file : ℕ → ℕ → List ℕ → List ℕ
four_file start size set =
    four 32 ++ four 8 ++ four 40 ++ four 4 ++ four 44 ++ four 4 ++ four start ++ four size ++ four 1 ++ four 1 ++ four 2 ++ four 65536 ++ set

pub four_contents : contents_of (four_file 48 4 (four 5)) ≡ Ok (44, 48)
unfolding entries_of entries entry_at
four_contents = refl

pub four_bodies : bodies_of (four_file 48 4 (four 5)) ≡ (four 1 ++ four 1) ∷ four 2 ∷ four 65536 ∷ four 5 ∷ []
unfolding entries_of entries entry_at
four_bodies = refl

-- Four entries in 31 bytes, and in 32 and 39.
pub four_in_31 : contents_of (take 31 (four_file 48 4 (four 5))) ≡ Err (malformed_at 3)
unfolding entries_of entries entry_at
four_in_31 = refl

pub four_in_32 : contents_of (take 32 (four_file 48 4 (four 5))) ≡ Err (malformed_at 0)
unfolding entries_of entries entry_at
four_in_32 = refl

pub four_in_39 : contents_of (take 39 (four_file 48 4 (four 5))) ≡ Err (malformed_at 0)
unfolding entries_of entries entry_at
four_in_39 = refl

-- Three entries in 23 bytes, and in 24.
pub three_in_23 : contents_of (take 23 three_file) ≡ Err (malformed_at 3)
unfolding entries_of entries entry_at
three_in_23 = refl

pub three_in_24 : contents_of (take 24 three_file) ≡ Err (malformed_at 0)
unfolding entries_of entries entry_at
three_in_24 = refl

-- A set of 3 bytes, of 5, of none and of 8.
pub set_of_3 : contents_of (four_file 48 3 (replicate 3 0)) ≡ Err (malformed_at 4)
unfolding entries_of entries entry_at
set_of_3 = refl

pub set_of_5 : contents_of (four_file 48 5 (replicate 5 0)) ≡ Err (malformed_at 4)
unfolding entries_of entries entry_at
set_of_5 = refl

pub set_of_none : contents_of (four_file 48 0 []) ≡ Err (malformed_at 4)
unfolding entries_of entries entry_at
set_of_none = refl

pub set_of_8 : contents_of (four_file 48 8 (replicate 8 0)) ≡ Err (malformed_at 4)
unfolding entries_of entries entry_at
set_of_8 = refl

-- A byte behind the set, one missing, and a set that starts where the questions do.
pub byte_behind : contents_of (four_file 48 4 (replicate 5 0)) ≡ Err (malformed_at 4)
unfolding entries_of entries entry_at
byte_behind = refl

pub byte_missing : contents_of (four_file 48 4 (replicate 3 0)) ≡ Err (malformed_at 4)
unfolding entries_of entries entry_at
byte_missing = refl

pub set_on_questions : contents_of (four_file 44 4 (four 5)) ≡ Err (malformed_at 4)
unfolding entries_of entries entry_at
set_on_questions = refl

-- A malformed file has four empty bodies.
pub no_bodies_left : bodies_of (four_file 48 4 (replicate 5 0)) ≡ [] ∷ [] ∷ [] ∷ [] ∷ []
unfolding entries_of entries entry_at
no_bodies_left = refl

-- A byte behind the questions of three entries, and a first start that is neither 24 nor 32.
pub byte_behind_three : contents_of (three_file ++ (0 ∷ [])) ≡ Err (malformed_at 2)
unfolding entries_of entries entry_at
byte_behind_three = refl

pub start_of_40 : contents_of (four 40 ++ replicate 36 0) ≡ Err (malformed_at 0)
unfolding entries_of entries entry_at
start_of_40 = refl
