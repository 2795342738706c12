-- The tests of number 10, in the terms of the code, and what they leave.
use Prim.Native.Nat.{ℕ, ◌/◌, ◌%◌, ◌<◌, ◌≤◌}
use mathlib.Core.Path.{◌≡◌}
use mathlib.Core.Bool.{true, false, ◌||◌}
use mathlib.Core.List.{List}
use mathlib.Core.Logic.{◌↔◌}
use native.Mathlib.Omega.{arith}
use borrow.Author.Tests.{lt-ltb, le-ltb, eq-eqb, ne_eqb, ltb-false, eqb-false}
use lib.Dec.{eqb, ltb}
use lib.ListN.{length}
use Rattle.theory_laws.proofs.Booleans.{or_none_left, or_none_right}
use Rattle.questions.specs.Pairs.{pairs_in, pair_limit, GoodPairs}
use Rattle.questions.specs.Table.{bad_pairs}

module _ (places room : ℕ) where
  -- An odd count.
  pub odd_count : places % 2 ≡ 1 → true ≡ bad_pairs places room
  odd_count h = rw (eq-eqb (places % 2) 1 h)

  module _ (e : places % 2 ≡ 1 → ⊥) where
    -- Too many pairs.
    pub many_pairs : 64 < places / 2 → true ≡ bad_pairs places room
    many_pairs h = rw (ne_eqb (places % 2) 1 e, lt-ltb pair_limit (places / 2) h)

    -- The last test.
    pub few_bytes : places / 2 ≤ 64 → ltb room (places / 2) ≡ bad_pairs places room
    few_bytes h = rw (ne_eqb (places % 2) 1 e, le-ltb pair_limit (places / 2) h)

-- They fail exactly for good pairs.
pub good_pairs : (ps bs : List ℕ) → (bad_pairs (length ps) (length bs) ≡ false) ↔ GoodPairs ps bs
good_pairs ps bs = (means, passes)
  where
    means : bad_pairs (length ps) (length bs) ≡ false → GoodPairs ps bs
    means h =
        let rest = or_none_right (eqb (length ps % 2) 1) (ltb pair_limit (pairs_in ps) || ltb (length bs) (pairs_in ps)) h in
        let even = eqb-false (length ps % 2) 1 (or_none_left (eqb (length ps % 2) 1) (ltb pair_limit (pairs_in ps) || ltb (length bs) (pairs_in ps)) h) in
        record {
          whole = omega (arith, even);
          few = ltb-false pair_limit (pairs_in ps) (or_none_left (ltb pair_limit (pairs_in ps)) (ltb (length bs) (pairs_in ps)) rest);
          room = ltb-false (length bs) (pairs_in ps) (or_none_right (ltb pair_limit (pairs_in ps)) (ltb (length bs) (pairs_in ps)) rest);
        }

    passes : GoodPairs ps bs → bad_pairs (length ps) (length bs) ≡ false
    passes g =
        let even : length ps % 2 ≡ 1 → ⊥ = λ h. omega (arith, h, g.whole) in
        rw (ne_eqb (length ps % 2) 1 even, le-ltb pair_limit (pairs_in ps) g.few, le-ltb (length bs) (pairs_in ps) g.room)
