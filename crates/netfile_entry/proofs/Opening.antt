-- The number of entries, and an entry of the contents by the three tests that the reader makes in turn: its start, its length and its end.
use Prim.Native.Nat.{ℕ, ◌+◌, ◌*◌, ◌%◌, ◌≤◌, ◌<◌}
use mathlib.Core.Path.{◌≡◌, refl}
use mathlib.Core.Bool.{Bool, true, false, cond}
use mathlib.Core.List.{List}
use native.Mathlib.Omega.{arith}
use Rattle.std.specs.Prelude.{Option, Some, None}
use Rattle.std.proofs.lemmas.Option.{none-some, some_pair_parts}
use borrow.Author.Tests.{eq-eqb, ne_eqb, eqb-true, leb-true}
use lib.ListN.{length}
use lib.Dec.{eqb, leb}
use Rattle.theory_laws.proofs.Booleans.{and_right}
use Rattle.netfile_numbers.specs.Bytes.{u32_at}
use Rattle.netfile_entry.specs.Entries.{entries, right_length, right_end, entry_opens, entry_at, fourth_at}

-- ── the number of entries ──

-- A first start of 32 means four entries,
pub four_entries : (s : List ℕ) → u32_at s 0 ≡ 32 → 4 ≡ entries s
unfolding entries
four_entries s e = rw (eq-eqb (u32_at s 0) 32 e)

-- anything else three.
pub three_entries : (s : List ℕ) → (u32_at s 0 ≡ 32 → ⊥) → 3 ≡ entries s
unfolding entries
three_entries s h = rw (ne_eqb (u32_at s 0) 32 h)

-- There are no others.
pub entries_bounded : (s : List ℕ) → (2 < entries s) × (entries s < 5)
unfolding entries
entries_bounded s = at (eqb (u32_at s 0) 32)
  where
    at : (q : Bool) → (2 < cond q 4 3) × (cond q 4 3 < 5)
    at true = (omega arith, omega arith)
    at false = (omega arith, omega arith)

-- ── one entry ──

-- The length of the first body is 8, of the fourth 4, of another a multiple of 4.
module _ (n size : ℕ) where
  pub first_length : n ≡ 0 → eqb size 8 ≡ right_length n size
  first_length e = rw (eq-eqb n 0 e)

  pub fourth_length : (n ≡ 0 → ⊥) → n ≡ 3 → eqb size 4 ≡ right_length n size
  fourth_length h e = rw (ne_eqb n 0 h, eq-eqb n 3 e)

  pub other_length : (n ≡ 0 → ⊥) → (n ≡ 3 → ⊥) → eqb (size % 4) 0 ≡ right_length n size
  other_length h g = rw (ne_eqb n 0 h, ne_eqb n 3 g)

-- The last body ends where the file ends, another inside the file.
module _ (count n end size : ℕ) where
  pub last_end : n + 1 ≡ count → eqb end size ≡ right_end count n end size
  last_end e = rw (eq-eqb (n + 1) count e)

  pub earlier_end : (n + 1 ≡ count → ⊥) → leb end size ≡ right_end count n end size
  earlier_end h = rw (ne_eqb (n + 1) count h)

module _ (count : ℕ) (s : List ℕ) (n from start size : ℕ) (e : start ≡ u32_at s (n * 8)) (f : size ≡ u32_at s (n * 8 + 4)) where
  -- An entry whose start is wrong cannot be opened,
  pub wrong_start : (start ≡ from → ⊥) → None ≡ entry_at count s n from
  unfolding entry_at
  wrong_start h = simp (← e, ne_eqb _ _ h)

  -- nor can one whose length is wrong,
  pub wrong_length : start ≡ from → right_length n size ≡ false → None ≡ entry_at count s n from
  unfolding entry_at
  wrong_length g h = simp (← e, ← f, eq-eqb _ _ g, h)

  -- nor one whose end is wrong.
  pub wrong_end : start ≡ from → right_length n size ≡ true → right_end count n (from + size) (length s) ≡ false → None ≡ entry_at count s n from
  unfolding entry_at
  wrong_end g h k = simp (← e, ← f, eq-eqb _ _ g, h, k)

  -- Any other is open from its start to its end.
  pub opened : start ≡ from → right_length n size ≡ true → right_end count n (from + size) (length s) ≡ true → Some (from, from + size) ≡ entry_at count s n from
  unfolding entry_at
  opened g h k = simp (← e, ← f, eq-eqb _ _ g, h, k)

-- The fourth entry: an empty one where there are three, and otherwise what the contents say.
module _ (count : ℕ) (s : List ℕ) (from : ℕ) where
  pub no_fourth : count ≡ 3 → Some (from, from) ≡ fourth_at count s from
  no_fourth e = rw (eq-eqb count 3 e)

  pub a_fourth : (count ≡ 3 → ⊥) → entry_at count s 3 from ≡ fourth_at count s from
  a_fourth h = rw (ne_eqb count 3 h)

-- ── the stretch of an open entry ──

-- A right end lies in the file.
right_inside : (count n end size : ℕ) → right_end count n end size ≡ true → end ≤ size
right_inside count n end size h = at (eqb (n + 1) count) h
  where
    at : (q : Bool) → cond q (eqb end size) (leb end size) ≡ true → end ≤ size
    at true h = omega (arith, eqb-true end size h)
    at false h = leb-true end size h

-- The stretch from a to e lies in the file.
abbrev pub InFile : List ℕ → ℕ → ℕ → Type 0
InFile s a e = (a ≤ e) × (e ≤ length s)

-- The stretch of an open entry does,
pub open_inside : (count : ℕ) (s : List ℕ) (n from : ℕ) {a e : ℕ} → entry_at count s n from ≡ Some (a, e) → InFile s a e
unfolding entry_at
open_inside count s n from {a} {e} h = at (entry_opens count s n from) (λ t. and_right sized ends (and_right (eqb (u32_at s (n * 8)) from) _ t)) h
  where
    sized : Bool
    sized = right_length n (u32_at s (n * 8 + 4))

    ends : Bool
    ends = right_end count n (from + u32_at s (n * 8 + 4)) (length s)

    at : (q : Bool) → (q ≡ true → ends ≡ true) → cond {A = Option (ℕ × ℕ)} q (Some (from, from + u32_at s (n * 8 + 4))) None ≡ Some (a, e) → InFile s a e
    at true f h =
        let (p, r) = some_pair_parts _ _ _ _ h in
        let i : from + u32_at s (n * 8 + 4) ≤ length s = right_inside count n (from + u32_at s (n * 8 + 4)) (length s) (f refl) in
        (omega arith, omega arith)
    at false f h = absurd (none-some _ h)

-- and that of the fourth, which starts where the third ends.
pub fourth_inside : (count : ℕ) (s : List ℕ) (from : ℕ) {a e : ℕ} → from ≤ length s → fourth_at count s from ≡ Some (a, e) → InFile s a e
fourth_inside count s from {a} {e} i h = at (eqb count 3) h
  where
    at : (q : Bool) → cond q (Some (from, from)) (entry_at count s 3 from) ≡ Some (a, e) → InFile s a e
    at true h =
        let (p, r) = some_pair_parts _ _ _ _ h in
        (omega arith, omega arith)
    at false h = open_inside count s 3 from h
