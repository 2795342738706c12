-- Each outcome of mending, in the terms of the code.
use Rattle.mend.specs.declared.MendError.TheVariants.{Refused, Short}
use Rattle.std.specs.Prelude.{Err, Ok}
use Prim.Native.Nat.{ℕ, ◌+◌, ◌*◌, ◌/◌, ◌<◌, ◌≤◌}
use mathlib.Core.Path.{◌≡◌}
use mathlib.Core.Bool.{true, false}
use mathlib.Core.List.{List, [], ◌++◌}
use native.Mathlib.Omega.{arith}
use borrow.Author.Tests.{lt-ltb, le-ltb, ltb-false}
use lib.Dec.{ltb}
use lib.ListN.{length, drop}
use Rattle.theory_laws.specs.Over.{over}
use Rattle.theory_laws.proofs.Booleans.{or_none_left, or_none_right}
use Rattle.theory.specs.Nets.{Net}
use Rattle.theory.specs.Marks.{blank}
use Rattle.theory.specs.Inside.{Inside}
use Rattle.theory.specs.Mending.{threes, kept_from, dropped_from}
use Rattle.theory.proofs.Inside.{legal_inside}
use Rattle.theory.proofs.mending.Keeping.{all_told, mending_mended}
use Rattle.scan_start.specs.Starts.{cleared}
use Rattle.net.specs.Clauses.{call}
use Rattle.net.specs.declared.Refusal.TheVariants.{ShortBuffer}
use Rattle.mend.specs.Table.{mending_outcome, too_short, mending_clauses, mending_done}

-- Both counts are below 2^32.
pub told_few : (o k : ℕ) (ws : List ℕ) → Net o k ws → {a b : ℕ} → (a ≡ length (kept_from o k [] ws)) × (b ≡ length (dropped_from o k [] ws)) → (a < 4294967296) × (b < 4294967296)
told_few o k ws net e =
    let t = all_told o k (kept_from o k [] ws) [] ws (dropped_from o k [] ws) (mending_mended o k ws net.legal) in
    (omega (arith, e.0, net.short), omega (arith, e.1, net.short))

module _ (o k n : ℕ) (ws kept dropped m : List ℕ) where
  -- Number 5.
  pub mend_unmarked : length m < n
      → mending_outcome (Err (Refused ShortBuffer)) kept dropped m ≡ call (mending_clauses ws kept dropped m n) (mending_done (kept_from o k [] ws) (dropped_from o k [] ws) kept dropped m n)
  mend_unmarked h = rw (lt-ltb (length m) n h)

  module _ (room : n ≤ length m) where
    -- Number 8.
    pub mend_short : {m' : List ℕ} → too_short ws kept dropped ≡ true → m' ≡ cleared n m
        → mending_outcome (Err (Short (length ws))) kept dropped m' ≡ call (mending_clauses ws kept dropped m n) (mending_done (kept_from o k [] ws) (dropped_from o k [] ws) kept dropped m n)
    mend_short h e = rw (le-ltb (length m) n room, h, e)

    module _ (h : too_short ws kept dropped ≡ false) where
      -- What the loop over the words asks for.
      pub all_asks : Net o k ws → n ≡ o + k
          → (n ≡ o + k) × ((n ≤ 1024) × (Inside n ws × ((length ws ≤ length kept) × ((3 * length ws ≤ length dropped) × (n ≤ length m)))))
      all_asks net e =
          let a = ltb-false (length kept) (length ws) (or_none_left (ltb (length kept) (length ws)) (ltb (length dropped / 3) (length ws)) h) in
          let b = ltb-false (length dropped / 3) (length ws) (or_none_right (ltb (length kept) (length ws)) (ltb (length dropped / 3) (length ws)) h) in
          (e, (rw e net.few, (rw e (legal_inside o k ws net.legal), (a, (omega arith, room)))))

      -- Number 0.
      pub mend_done : {a b : ℕ} {kept' dropped' m₁ m₂ : List ℕ} → kept' ≡ over (kept_from o k [] ws) kept → dropped' ≡ over (threes (dropped_from o k [] ws)) dropped
          → (a ≡ length (kept_from o k [] ws)) × (b ≡ length (dropped_from o k [] ws)) → m₂ ≡ blank n ++ m₁ → m₁ ≡ drop n m
          → mending_outcome (Ok (a, b)) kept' dropped' m₂ ≡ call (mending_clauses ws kept dropped m n) (mending_done (kept_from o k [] ws) (dropped_from o k [] ws) kept dropped m n)
      mend_done p q c e d = rw (le-ltb (length m) n room, h, p, q, c.0, c.1, e, d)
