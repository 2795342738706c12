-- The tests that the reader makes, and what they mean in plain numbers.
use Prim.Native.Nat.{ℕ, ◌+◌, ◌*◌, ◌%◌, ◌≤◌, ◌<◌}
use mathlib.Core.Path.{◌≡◌, refl, sym}
use mathlib.Core.Bool.{Bool, true, false}
use mathlib.Core.Logic.{◌⊎◌, inl, inr}
use mathlib.Core.List.{List}
use native.Mathlib.Omega.{arith}
use native.Mathlib.Decide.{dec_lt, ℕ_discrete}
use borrow.Author.Tests.{eq-eqb, ne_eqb}
use lib.ListN.{length}
use lib.Dec.{eqb, ltb}
use Rattle.std.specs.Prelude.{Some, None}
use Rattle.theory_laws.proofs.Booleans.{contradiction, not_so}
use Rattle.theory_laws.specs.Deciding.{Decides}
use Rattle.theory_laws.proofs.Deciding.{decides_equal, decides_below, decides_most, decides_both, decides_either, decides_same}
use Rattle.netfile_numbers.specs.Bytes.{u32_at}
use Rattle.netfile_entry.specs.Entries.{entries, contents_size, right_end, entry_opens, entry_at}
use Rattle.netfile_entry.proofs.Opening.{three_entries, four_entries, entries_bounded}
use Rattle.netfile.specs.Contents.{wrong_size}
use Rattle.netfile.specs.Places.{Three, Four, Missized, words_start, questions_start, set_start, set_end, FirstRight, SecondRight, ThirdRight, FourthRight}

-- A test passes, or what it means is not so.
pub either : {P : Type 0} (b : Bool) → Decides b P → P ⊎ (P → ⊥)
either true t = inl (t.0 refl)
either false t = inr (λ h. contradiction (t.1 h))

-- An entry is open where its test passes, and shut where it does not.
module _ (count : ℕ) (s : List ℕ) (n from : ℕ) {P : Type 0} (t : Decides (entry_opens count s n from) P) where
  pub open_entry : P → entry_at count s n from ≡ Some (from, from + u32_at s (n * 8 + 4))
  unfolding entry_at
  open_entry h = rw (t.1 h)

  pub shut_entry : (P → ⊥) → entry_at count s n from ≡ None
  unfolding entry_at
  shut_entry h = rw (not_so (entry_opens count s n from) (λ e. h (t.0 e)))

-- A body that is not the last ends in the file, and the third, where it is the last, at its end.
inside : (count n end size : ℕ) → n + 1 < count → Decides (right_end count n end size) (end ≤ size)
inside count n end size h = rw (ne_eqb (n + 1) count (λ e. omega arith)) (decides_most end size)

third_end : (count end size : ℕ) → Decides (right_end count 2 end size) ((end ≤ size) × (count ≡ 3 → end ≡ size))
third_end count end size = at (ℕ_discrete 3 count)
  where
    at : Dec (3 ≡ count) → Decides (right_end count 2 end size) ((end ≤ size) × (count ≡ 3 → end ≡ size))
    at (yes e) = rw (eq-eqb 3 count e) (decides_same (eqb end size) (decides_equal end size) (λ h. (omega arith, λ z. h)) (λ h. h.1 (sym e)))
    at (no n) = rw (ne_eqb 3 count n) (decides_same _ (decides_most end size) (λ h. (h, λ z. absurd (n (sym z)))) (λ h. h.0))

-- A file that is read as one of so many entries.
pub record Read (count : ℕ) (s : List ℕ) : Type 0 where
  pub sized : wrong_size s ≡ false
  pub counted : count ≡ entries s
  pub more : 2 < count

module _ (s : List ℕ) where
  -- ── the size ──

  pub size : Decides (wrong_size s) (Missized s)
  size = decides_same (wrong_size s) (decides_either (ltb (length s) (contents_size (entries s))) _ (decides_below (length s) (contents_size (entries s))) (decides_below 32768 (length s))) there back
    where
      counted : length s < contents_size (entries s) → Dec (u32_at s 0 ≡ 32) → Missized s
      counted h (yes e) = inl (inr (e, omega (arith, four_entries s e)))
      counted h (no n) = inl (inl (omega (arith, three_entries s n)))

      there : (length s < contents_size (entries s)) ⊎ (32768 < length s) → Missized s
      there (inl h) = counted h (ℕ_discrete (u32_at s 0) 32)
      there (inr h) = inr h

      back : Missized s → (length s < contents_size (entries s)) ⊎ (32768 < length s)
      back (inl (inl h)) = inl (omega (arith, (entries_bounded s).0))
      back (inl (inr h)) = inl (omega (arith, four_entries s h.0, h.1))
      back (inr h) = inr h

  -- In a right size three entries are read as three, and four as four.
  pub read_three : Three s → Read 3 s
  read_three z = record { sized = not_so (wrong_size s) (λ e. at (size.0 e)); counted = three_entries s z.0; more = omega arith }
    where
      at : Missized s → ⊥
      at (inl (inl h)) = omega arith
      at (inl (inr h)) = z.0 h.0
      at (inr h) = omega arith

  pub read_four : Four s → Read 4 s
  read_four z = record { sized = not_so (wrong_size s) (λ e. at (size.0 e)); counted = four_entries s z.0; more = omega arith }
    where
      at : Missized s → ⊥
      at (inl (inl h)) = omega arith
      at (inl (inr h)) = omega (arith, h.1)
      at (inr h) = omega arith

  -- Three entries or four, where the size is right.
  pub three_or_four : (Missized s → ⊥) → Three s ⊎ Four s
  three_or_four h = at (ℕ_discrete (u32_at s 0) 32) (dec_lt (length s) 24) (dec_lt (length s) 32) (dec_lt 32768 (length s))
    where
      at : Dec (u32_at s 0 ≡ 32) → Dec (length s < 24) → Dec (length s < 32) → Dec (32768 < length s) → Three s ⊎ Four s
      at f (yes a) b c = absurd (h (inl (inl a)))
      at f (no a) b (yes c) = absurd (h (inr c))
      at (no n) (no a) b (no c) = inl (n, (omega arith, omega arith))
      at (yes e) (no a) (yes b) (no c) = absurd (h (inl (inr (e, b))))
      at (yes e) (no a) (no b) (no c) = inr (e, (omega arith, omega arith))

  -- ── the entries ──

  module _ {count : ℕ} (r : Read count s) where
    pub first : Decides (entry_opens count s 0 (contents_size count)) (FirstRight count s)
    first =
        decides_both (eqb (u32_at s 0) (count * 8)) _ (decides_equal (u32_at s 0) (count * 8))
        (decides_both (eqb (u32_at s 4) 8) _ (decides_equal (u32_at s 4) 8) (inside count 0 (words_start count s) (length s) (omega (arith, r.more))))

    pub second : Decides (entry_opens count s 1 (words_start count s)) (SecondRight count s)
    second =
        decides_both (eqb (u32_at s 8) (words_start count s)) _ (decides_equal (u32_at s 8) (words_start count s))
        (decides_both (eqb (u32_at s 12 % 4) 0) _ (decides_equal (u32_at s 12 % 4) 0) (inside count 1 (questions_start count s) (length s) r.more))

    pub third : Decides (entry_opens count s 2 (questions_start count s)) (ThirdRight count s)
    third =
        decides_both (eqb (u32_at s 16) (questions_start count s)) _ (decides_equal (u32_at s 16) (questions_start count s))
        (decides_both (eqb (u32_at s 20 % 4) 0) _ (decides_equal (u32_at s 20 % 4) 0) (third_end count (set_start count s) (length s)))

  pub fourth : Decides (entry_opens 4 s 3 (set_start 4 s)) (FourthRight s)
  fourth =
      decides_both (eqb (u32_at s 24) (set_start 4 s)) _ (decides_equal (u32_at s 24) (set_start 4 s))
      (decides_both (eqb (u32_at s 28) 4) _ (decides_equal (u32_at s 28) 4) (decides_equal (set_end s) (length s)))
