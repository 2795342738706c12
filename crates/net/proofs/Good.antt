-- The tests of number 4 fail exactly for what may be asked.
use Prim.Native.Nat.{ℕ, ◌+◌}
use mathlib.Core.Path.{◌≡◌}
use mathlib.Core.Bool.{false, ◌||◌}
use mathlib.Core.Logic.{◌↔◌}
use borrow.Author.Tests.{ltb-false, leb-false, le-ltb, lt-leb}
use lib.Dec.{ltb, leb}
use Rattle.theory_laws.proofs.Booleans.{or_none_left, or_none_right}
use Rattle.theory.specs.Nets.{Kind}
use Rattle.net.specs.Table.{bad_pair, bad_statement}
use Rattle.net.specs.Good.{GoodPair, GoodStatement}

-- A pair.
pub good_pair : (o n x y : ℕ) → (bad_pair o n x y ≡ false) ↔ GoodPair o n x y
good_pair o n x y = (means, passes)
  where
    means : bad_pair o n x y ≡ false → GoodPair o n x y
    means h =
        let kinds = or_none_right (leb n x) (ltb y o || leb n y) h in
        record {
          node = leb-false n x (or_none_left (leb n x) (ltb y o || leb n y) h);
          low = ltb-false y o (or_none_left (ltb y o) (leb n y) kinds);
          high = leb-false n y (or_none_right (ltb y o) (leb n y) kinds);
        }

    passes : GoodPair o n x y → bad_pair o n x y ≡ false
    passes g = rw (lt-leb n x g.node, le-ltb y o g.low, lt-leb n y g.high)

-- A statement.
pub good_statement : (o n x y sign : ℕ) → (bad_statement o n x y sign ≡ false) ↔ GoodStatement o n x y sign
good_statement o n x y sign = (
  (λ h. record { pair = (good_pair o n x y).0 (or_none_left (bad_pair o n x y) (ltb 1 sign) h); signed = ltb-false 1 sign (or_none_right (bad_pair o n x y) (ltb 1 sign) h) }),
  λ g. rw ((good_pair o n x y).1 g.pair, le-ltb 1 sign g.signed),
)

-- In a net of o objects and k kinds the second of a good pair is a kind.
pub good_kind : {o k x y : ℕ} → GoodPair o (o + k) x y → Kind o k y
good_kind g = record { low = g.low; high = g.high }
