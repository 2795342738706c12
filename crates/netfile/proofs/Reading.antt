-- A file read entry by entry, by what its size and its entries are, whatever is to be said of it.
use Prim.Native.Nat.{ℕ, ◌≤◌, ◌<◌}
use mathlib.Core.Path.{◌≡◌, refl}
use mathlib.Core.Bool.{Bool, true, false, cond}
use mathlib.Core.List.{List}
use native.Mathlib.Omega.{arith}
use borrow.Author.Tests.{ltb-false, lt-ltb, le-ltb}
use lib.Dec.{eqb, ltb}
use lib.ListN.{length}
use Rattle.std.specs.Prelude.{Option, Some, None}
use Rattle.theory_laws.proofs.Booleans.{or_none_left}
use Rattle.netfile_entry.specs.Entries.{entries, contents_size, entry_at, fourth_at}
use Rattle.netfile_entry.proofs.Opening.{entries_bounded}
use Rattle.netfile.specs.Contents.{file_limit, wrong_size, read_on, with_entry, entries_of}
use Rattle.netfile.specs.Places.{Says}

-- ── the size ──

-- A file in which its entries do not fit, or not even three, has a wrong size.
pub below_contents : (s : List ℕ) (count : ℕ) → count ≡ entries s → length s < contents_size count → true ≡ wrong_size s
below_contents s count e h = simp (lt-ltb (length s) (contents_size (entries s)) (omega arith))

pub below_least : (s : List ℕ) → length s < 24 → true ≡ wrong_size s
below_least s h = below_contents s (entries s) refl (omega (arith, (entries_bounded s).0))

-- In any other the limit decides.
pub by_limit : (s : List ℕ) (count : ℕ) → count ≡ entries s → contents_size count ≤ length s → ltb file_limit (length s) ≡ wrong_size s
by_limit s count e h = simp (le-ltb (length s) (contents_size (entries s)) (omega arith))

-- So many entries, three or four, fit in a file.
abbrev pub Fit : ℕ → List ℕ → Type 0
Fit count s = (2 < count) × (count < 5) × (contents_size count ≤ length s)

-- The entries of a file whose size is not wrong do,
pub contents_fit : (s : List ℕ) → wrong_size s ≡ false → (count : ℕ) → count ≡ entries s → Fit count s
contents_fit s h count e =
    let b = entries_bounded s in
    let f : contents_size (entries s) ≤ length s = ltb-false (length s) (contents_size (entries s)) (or_none_left (ltb (length s) (contents_size (entries s))) _ h) in
    (omega arith, omega arith, omega arith)

-- and so does its first start.
pub first_start : (s : List ℕ) → wrong_size s ≡ false → 4 ≤ length s
first_start s h = let f = contents_fit s h (entries s) refl in omega arith

-- ── the entries in turn ──

module _ (s : List ℕ) where
  -- A file of a wrong size.
  pub missized : wrong_size s ≡ true → Says s (λ A wrong right. wrong 3)
  unfolding entries_of
  missized h A wrong right = rw h

  module _ (z : wrong_size s ≡ false) (count : ℕ) (n : count ≡ entries s) where
    -- The entries of any other decide.
    by_entries : Says s (λ A wrong right.
        read_on wrong 0 (λ a e.
        read_on wrong 1 (λ b f.
        read_on wrong 2 (λ c g.
        read_on wrong 3 (λ d h.
        right a e b f c g d h) (fourth_at count s g)) (entry_at count s 2 f)) (entry_at count s 1 e)) (entry_at count s 0 (contents_size count)))
    unfolding entries_of
    by_entries A wrong right = rw (n, z) (at (eqb (entries s) 3))
      where
        at : (q : Bool)
            → with_entry wrong s 0 (contents_size (entries s)) (λ a e.
            with_entry wrong s 1 e (λ b f.
            with_entry wrong s 2 f (λ c g.
            cond q (right a e b f c g g g) (with_entry wrong s 3 g (λ d h. right a e b f c g d h)))))
            ≡ with_entry wrong s 0 (contents_size (entries s)) (λ a e.
            with_entry wrong s 1 e (λ b f.
            with_entry wrong s 2 f (λ c g.
            read_on wrong 3 (λ d h. right a e b f c g d h) (cond q (Some (g, g)) (entry_at (entries s) s 3 g)))))
        at true = refl
        at false = refl

    pub first_shut : (r : Option (ℕ × ℕ)) → r ≡ entry_at count s 0 (contents_size count) → r ≡ None → Says s (λ A wrong right. wrong 0)
    first_shut r e f A wrong right = rw (by_entries A wrong right, ← e, f)

    module _ (r : Option (ℕ × ℕ)) (a d : ℕ) (e : r ≡ entry_at count s 0 (contents_size count)) (f : r ≡ Some (a, d)) where
      pub second_shut : (t : Option (ℕ × ℕ)) → t ≡ entry_at count s 1 d → t ≡ None → Says s (λ A wrong right. wrong 1)
      second_shut t g h A wrong right = rw (by_entries A wrong right, ← e, f, ← g, h)

      module _ (t : Option (ℕ × ℕ)) (a' d' : ℕ) (g : t ≡ entry_at count s 1 d) (h : t ≡ Some (a', d')) where
        pub third_shut : (u : Option (ℕ × ℕ)) → u ≡ entry_at count s 2 d' → u ≡ None → Says s (λ A wrong right. wrong 2)
        third_shut u k l A wrong right = rw (by_entries A wrong right, ← e, f, ← g, h, ← k, l)

        module _ (u : Option (ℕ × ℕ)) (a'' d'' : ℕ) (k : u ≡ entry_at count s 2 d') (l : u ≡ Some (a'', d'')) where
          pub fourth_shut : (v : Option (ℕ × ℕ)) → v ≡ fourth_at count s d'' → v ≡ None → Says s (λ A wrong right. wrong 4)
          fourth_shut v i j A wrong right = rw (by_entries A wrong right, ← e, f, ← g, h, ← k, l, ← i, j)

          pub all_open : (v : Option (ℕ × ℕ)) (a''' d''' : ℕ) → v ≡ fourth_at count s d'' → v ≡ Some (a''', d''') → Says s (λ A wrong right. right a d a' d' a'' d'' a''' d''')
          all_open v a''' d''' i j A wrong right = rw (by_entries A wrong right, ← e, f, ← g, h, ← k, l, ← i, j)
