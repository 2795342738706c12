-- Each outcome of the test, in the terms of the code.
use Rattle.satisfies.specs.declared.TestError.TheVariants.{BadTable, Refused}
use Rattle.std.specs.Prelude.{Err, Ok, false, true}
use Prim.Native.Nat.{ℕ, zero, suc, ◌+◌, ◌-◌, ◌*◌, ◌≤◌, ◌<◌}
use mathlib.Core.Path.{◌≡◌, ap, refl, sym, ◌∙◌}
use mathlib.Core.Bool.{Bool, true, false, not}
use mathlib.Core.List.{List}
use borrow.Author.Tests.{lt-ltb, le-ltb, ltb-false}
use lib.Dec.{ltb}
use lib.ListN.{length, get_or}
use Rattle.theory_laws.proofs.Booleans.{or_none_left}
use Rattle.theory.specs.Words.{node_limit, sign_at}
use Rattle.theory.specs.Marks.{T, F, has}
use Rattle.theory.specs.Valuations.{truth_of, everywhere, satisfies}
use Rattle.net.specs.Table.{bad_statement}
use Rattle.net.specs.declared.Refusal.TheVariants.{TooManyNodes, BadQuestion}
use Rattle.satisfies.specs.Table.{low_bytes, bad_table, tested_by}

-- ── the table ──
module _ (n k : ℕ) (t : List ℕ) where
  pub table_short : length t < n * k → true ≡ bad_table n k t
  table_short h = rw (lt-ltb (length t) (n * k) h)

  pub table_read : {r : Bool} → n * k ≤ length t → r ≡ low_bytes t 0 (n * k) → not r ≡ bad_table n k t
  table_read h e = rw (e, le-ltb (length t) (n * k) h)

  -- A table that is not bad is long enough.
  pub table_long : {none : Bool} → none ≡ bad_table n k t → none ≡ false → n * k ≤ length t
  table_long read h = ltb-false (length t) (n * k) (or_none_left (ltb (length t) (n * k)) (not (low_bytes t 0 (n * k))) (sym read ∙ h))

-- ── whether the statement holds ──
module _ (o k : ℕ) (t : List ℕ) (x y sign : ℕ) {r : Bool} where
  pub object_is : x < o → sign ≡ 0 → r ≡ has T (get_or t (x * k + (y - o)) 0) → r ≡ satisfies o k t x y (sign_at sign)
  object_is h e f = f ∙ rw (e, lt-ltb x o h)

  pub object_isnt : x < o → (sign ≡ 0 → ⊥) → r ≡ has F (get_or t (x * k + (y - o)) 0) → r ≡ satisfies o k t x y (sign_at sign)
  object_isnt h e f = f ∙ rw (lt-ltb x o h) (at sign e)
    where
      at : (n : ℕ) → (n ≡ 0 → ⊥) → has F (get_or t (x * k + (y - o)) 0) ≡ has (truth_of (sign_at n)) (get_or t (x * k + (y - o)) 0)
      at zero e = absurd (e refl)
      at (suc n) e = refl

  pub kind_holds : (n : ℕ) → o ≤ x → n ≡ o + k → r ≡ everywhere o k t x y (sign_at sign) 0 n → r ≡ satisfies o k t x y (sign_at sign)
  kind_holds n h e f = f ∙ rw (e, le-ltb x o h)

-- ── the numbers ──
module _ (o k : ℕ) (t : List ℕ) (x y sign : ℕ) where
  -- Number 1.
  pub test_many : node_limit < o + k → Err (Refused TooManyNodes) ≡ tested_by o k t x y sign
  test_many h = rw (lt-ltb node_limit (o + k) h)

  -- What the code was told of the statement, then of the table, then of the statement in it.
  module _ (h : o + k ≤ node_limit) {bad : Bool} (told : bad ≡ bad_statement o (o + k) x y sign) where
    -- Number 4.
    pub test_bad : bad ≡ true → Err (Refused BadQuestion) ≡ tested_by o k t x y sign
    test_bad b = rw (le-ltb node_limit (o + k) h, sym told ∙ b)

    module _ (b : bad ≡ false) {none : Bool} (read : none ≡ bad_table (o + k) k t) where
      -- Number 13.
      pub test_table : none ≡ true → Err BadTable ≡ tested_by o k t x y sign
      test_table e = rw (le-ltb node_limit (o + k) h, sym told ∙ b, sym read ∙ e)

      -- Number 0.
      module _ (e : none ≡ false) {r : Bool} (f : r ≡ satisfies o k t x y (sign_at sign)) where
        pub test_told : Ok r ≡ tested_by o k t x y sign
        test_told = rw (le-ltb node_limit (o + k) h, sym told ∙ b, sym read ∙ e) (ap Ok f)
