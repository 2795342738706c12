-- The bodies of a file that is not malformed: where they stand in it.
use Prim.Native.Nat.{ℕ, ◌-◌, ◌≤◌}
use mathlib.Core.Path.{◌≡◌, refl, ◌∙◌}
use mathlib.Core.Logic.{inl, inr}
use mathlib.Core.List.{List, [], ◌∷◌}
use native.Mathlib.Omega.{arith}
use lib.ListN.{length, take, drop, length-drop, drop_of_length-le}
use lib.Seq.{take_all}
use Rattle.std.specs.Prelude.{Ok, Err}
use Rattle.netfile_numbers.specs.Bytes.{u32_at}
use Rattle.netfile_entry.specs.Entries.{entries, contents_size}
use Rattle.netfile_entry.proofs.Opening.{three_entries, four_entries}
use Rattle.netfile.specs.Contents.{malformed_at, file_limit, contents_of, stretch, bodies_of}
use Rattle.netfile.specs.Places.{Says, SetStands, Stretches, FirstRight, SecondRight, ThirdRight, Right, words_start, questions_start, set_start}
use Rattle.netfile.proofs.Places.{right_three, right_four, no_place, says_place}

module _ (s : List ℕ) (q d : ℕ) where
  -- The same of three entries and of four, once they are right.
  stand : (count : ℕ) → count ≡ entries s → length s ≤ file_limit → FirstRight count s × (SecondRight count s × ThirdRight count s)
      → (q ≡ questions_start count s) × (d ≡ set_start count s) → SetStands s d
      → Says s (λ A wrong right. right (contents_size count) (words_start count s) (words_start count s) q q d d (length s)) → Stretches s q d
  stand count k l (x, (y, t)) (f, g) z told = record {
    low = omega arith;
    limit = l;
    nodes = omega arith;
    start = omega arith;
    middle = omega arith;
    end = omega arith;
    whole_words = omega arith;
    whole_questions = omega arith;
    set = z;
    says = λ A wrong right. rw (← k) (told A wrong right);
  }

  -- Where a file is not malformed its bodies stand one after another.
  pub stretches : contents_of s ≡ Ok (q, d) → Stretches s q d
  stretches h = at ((no_place s q d).0 h)
    where
      at : Right s q d → Stretches s q d
      at (inl ((z, (x, (y, t))), (f, g))) =
          let last : set_start 3 s ≡ length s = t.1.1.1 refl in
          stand 3 (three_entries s z.0) z.1.1 (x, (y, t)) (f, omega arith) (inl (z.0, g))
          (λ A wrong right. rw (f, g) (right_three s (z, (x, (y, t))) A wrong right))
      at (inr ((z, (x, (y, (t, u)))), (f, g))) =
          stand 4 (four_entries s z.0) z.1.1 (x, (y, t)) (f, g) (inr (z.0, omega arith))
          (λ A wrong right. rw (f, g) (right_four s (z, (x, (y, (t, u)))) A wrong right))

-- A stretch up to the end of the file.
rest : (s : List ℕ) (q : ℕ) → stretch s q (length s) ≡ drop q s
rest s q = take_all (length s - q) (drop q s) (simp length-drop (omega arith))

-- The bodies of three entries in plain numbers: bytes 24 to 31, those from 32 to where the questions start, those from there on, and no set.
pub plain_three : (s : List ℕ) (q d : ℕ) → contents_of s ≡ Ok (q, d) → (u32_at s 0 ≡ 32 → ⊥)
    → bodies_of s ≡ take 8 (drop 24 s) ∷ take (q - 32) (drop 32 s) ∷ drop q s ∷ [] ∷ []
plain_three s q d h n =
    let z = stretches s q d h in
    let k : 3 ≡ entries s = three_entries s n in
    let w : words_start 3 s ≡ 32 = omega (arith, z.nodes) in
    let e : d ≡ length s = at z.set in
    let whole : length s ≤ length s = omega arith in
    z.says _ _ _ ∙ rw (← k, w, e, rest s q, rest s (length s), drop_of_length-le s whole)
  where
    at : SetStands s d → d ≡ length s
    at (inl f) = f.1
    at (inr f) = absurd (n f.0)

-- Of four: bytes 32 to 39, those from 40 to where the questions start, those from there to where the set starts, and the last four.
pub plain_four : (s : List ℕ) (q d : ℕ) → contents_of s ≡ Ok (q, d) → u32_at s 0 ≡ 32
    → bodies_of s ≡ take 8 (drop 32 s) ∷ take (q - 40) (drop 40 s) ∷ take (d - q) (drop q s) ∷ drop d s ∷ []
plain_four s q d h e =
    let z = stretches s q d h in
    let k : 4 ≡ entries s = four_entries s e in
    let w : words_start 4 s ≡ 40 = omega (arith, z.nodes) in
    z.says _ _ _ ∙ rw (← k, w, rest s d)

-- A malformed file has four empty ones.
pub plain_none : (s : List ℕ) (place : ℕ) → contents_of s ≡ Err (malformed_at place) → bodies_of s ≡ [] ∷ [] ∷ [] ∷ [] ∷ []
plain_none s place h = says_place s place h _ _ _
