-- The net file, read entry by entry: its contents, the stretches that its bodies are, and the replies of the reader and of an entry.
use Rattle.std.specs.Prelude.{ℕ, ◌-◌, Bool, cond, ◌||◌, List, [], ◌∷◌, eqb, ltb, length, take, drop, Option, Some, None, Result, Ok, Err}
use Rattle.net.specs.Table.{Reply, reply}
use Rattle.netfile_entry.specs.Entries.{entries, contents_size, entry_at}
use Rattle.netfile.specs.declared.Malformed.{Malformed}

-- The place of entry n where it cannot be opened: its own number, but of the fourth 4, since 3 is the size.
abbrev pub place_of : ℕ → ℕ
place_of n = cond (eqb n 3) 4 n

-- What a file is refused with, by its place.
abbrev pub malformed_at : ℕ → Malformed
malformed_at place = record { place = place }

-- What the reader answers: where the questions and the set start, or the place of a 9.
abbrev pub Contents : Type 0
Contents = Result (ℕ × ℕ) Malformed

-- The paper's number for each answer of the reader and for entry n, with its values: with 9 the place; with 0, where the paper names none, where
-- the questions and the set start, and an entry's start and end.
abbrev pub contents_reply : Contents → Reply
contents_reply (Ok (q, d)) = reply 0 q d
contents_reply (Err malformed) = reply 9 malformed.place 0

abbrev pub entry_reply : ℕ → Option (ℕ × ℕ) → Reply
entry_reply n (Some (a, e)) = reply 0 a e
entry_reply n None = reply 9 (place_of n) 0

-- The largest file.
abbrev pub file_limit : ℕ
file_limit = 32768

-- A size that the contents do not fit in, or above the limit.
abbrev pub wrong_size : List ℕ → Bool
wrong_size s = ltb (length s) (contents_size (entries s)) || ltb file_limit (length s)

-- After entry n: `next` gets the start and the end of its body. One that cannot be opened ends the reading, and `wrong` gets the place in its reply.
abbrev pub read_on : {A : Type 0} → (ℕ → A) → ℕ → (ℕ → ℕ → A) → Option (ℕ × ℕ) → A
read_on wrong n next (Some (a, e)) = next a e
read_on wrong n next None = wrong (entry_reply n None).first

-- The same of a file whose body n has to start at `from`.
abbrev pub with_entry : {A : Type 0} → (ℕ → A) → List ℕ → ℕ → ℕ → (ℕ → ℕ → A) → A
with_entry wrong s n from next = read_on wrong n next (entry_at (entries s) s n from)

-- A file, whatever is to be said of it: each body starts where the one before it ends, the first behind the contents. `right` gets the start and
-- the end of each body, `wrong` the place of a 9. Where there are three entries an empty stretch at the end of the file stands for the fourth body.
unfoldable pub entries_of : {A : Type 0} → (ℕ → A) → (ℕ → ℕ → ℕ → ℕ → ℕ → ℕ → ℕ → ℕ → A) → List ℕ → A
entries_of wrong right s =
    cond (wrong_size s) (wrong 3)
    (with_entry wrong s 0 (contents_size (entries s)) (λ a e.
    with_entry wrong s 1 e (λ b f.
    with_entry wrong s 2 f (λ c g.
    cond (eqb (entries s) 3) (right a e b f c g g g)
    (with_entry wrong s 3 g (λ d h.
    right a e b f c g d h))))))

-- The contents of a file: where the questions start and where the set starts, or the place of a 9.
abbrev pub contents_of : List ℕ → Contents
contents_of s = entries_of (λ place. Err (malformed_at place)) (λ a e b f c g d h. Ok (c, d)) s

-- Its entries: the start and the end of each body, or the place of a 9.
abbrev pub told_entries : List ℕ → Result (List (ℕ × ℕ)) Malformed
told_entries s = entries_of (λ place. Err (malformed_at place)) (λ a e b f c g d h. Ok ((a, e) ∷ (b, f) ∷ (c, g) ∷ (d, h) ∷ [])) s

-- The stretch of a file from a start to an end.
abbrev pub stretch : List ℕ → ℕ → ℕ → List ℕ
stretch s a e = take (e - a) (drop a s)

-- The four bodies, each the stretch between its entry's start and end: o and k, the words, the questions, the set.
abbrev pub cut : List ℕ → ℕ → ℕ → ℕ → ℕ → ℕ → ℕ → ℕ → ℕ → List (List ℕ)
cut s a e b f c g d h = stretch s a e ∷ stretch s b f ∷ stretch s c g ∷ stretch s d h ∷ []

-- Those of a malformed file are empty.
abbrev pub no_bodies : List (List ℕ)
no_bodies = [] ∷ [] ∷ [] ∷ [] ∷ []

abbrev pub bodies_of : List ℕ → List (List ℕ)
bodies_of s = entries_of (λ place. no_bodies) (cut s) s
