-- The reader's number table: clause 9, and what is done where it does not apply.
use Rattle.std.specs.Prelude.{ℕ, Bool, true, false, List, [], ◌∷◌, Ok, Err}
use Rattle.net.specs.Clauses.{Clause, clause}
use Rattle.netfile.specs.Contents.{malformed_at, Contents, entries_of, contents_of, no_bodies, bodies_of}

-- What the reader gives: the contents and the bodies.
pub record FileOutcome : Type 0 where
  pub contents : Contents
  pub bodies : List (List ℕ)

abbrev pub file_outcome : Contents → List (List ℕ) → FileOutcome
file_outcome c b = record { contents = c; bodies = b }

abbrev pub read_from : List ℕ → FileOutcome
read_from s = file_outcome (contents_of s) (bodies_of s)

-- Whether something is wrong with a file, and the place of what is; 0 where nothing is.
abbrev pub malformed : List ℕ → Bool
malformed s = entries_of (λ place. true) (λ a e b f c g d h. false) s

abbrev pub wrong_place : List ℕ → ℕ
wrong_place s = entries_of (λ place. place) (λ a e b f c g d h. 0) s

-- Where the questions start, and where the set starts; 0 in a malformed file.
abbrev pub questions_at : List ℕ → ℕ
questions_at s = entries_of (λ place. 0) (λ a e b f c g d h. c) s

abbrev pub set_at : List ℕ → ℕ
set_at s = entries_of (λ place. 0) (λ a e b f c g d h. d) s

abbrev pub file_table : List ℕ → List (Clause FileOutcome)
file_table s = clause 9 (malformed s) (file_outcome (Err (malformed_at (wrong_place s))) no_bodies) ∷ []

abbrev pub file_done : List ℕ → FileOutcome
file_done s = file_outcome (Ok (questions_at s, set_at s)) (bodies_of s)
