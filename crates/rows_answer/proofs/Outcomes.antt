-- Each outcome of a question of rows, in the terms of the code.
use Rattle.std.specs.Prelude.{Err, Ok}
use Prim.Native.Nat.{ℕ, ◌+◌, ◌*◌, ◌/◌, ◌<◌, ◌≤◌}
use mathlib.Core.Path.{◌≡◌, refl, sym, ap, ◌∙◌}
use mathlib.Core.Bool.{Bool, true, false}
use mathlib.Core.List.{List}
use native.Mathlib.Omega.{arith}
use native.Mathlib.Nat.{mul-le-mul_right}
use borrow.Author.Tests.{lt-ltb, le-ltb}
use lib.Dec.{ltb}
use lib.ListN.{length}
use Rattle.theory_laws.proofs.Booleans.{or_true}
use Rattle.theory.specs.Words.{node_limit}
use Rattle.theory.specs.Rows.{width, rows_size, bit_at}
use Rattle.net.specs.Table.{bad_pair}
use Rattle.net.proofs.Good.{good_pair}
use Rattle.net.specs.declared.Refusal.TheVariants.{TooManyNodes, BadQuestion, ShortBuffer}
use Rattle.question.specs.declared.Answer.{Answer}
use Rattle.rows_answer.specs.Table.{answer_of_bits, answered_in_rows}

module _ (o k : ℕ) (yeses noes : List ℕ) (x y : ℕ) where
  -- Number 1.
  pub answer_many : node_limit < o + k → Err TooManyNodes ≡ answered_in_rows o k yeses noes x y
  answer_many h = rw (lt-ltb node_limit (o + k) h)

  module _ (few : o + k ≤ node_limit) {bad : Bool} (told : bad ≡ bad_pair o (o + k) x y) where
    -- Number 4.
    pub answer_bad : bad ≡ true → Err BadQuestion ≡ answered_in_rows o k yeses noes x y
    answer_bad e = rw (le-ltb node_limit (o + k) few, sym told ∙ e)

    module _ (good : bad ≡ false) where
      -- Number 5.
      pub yes_short : length yeses < rows_size (o + k) → Err ShortBuffer ≡ answered_in_rows o k yeses noes x y
      yes_short h = rw (le-ltb node_limit (o + k) few, sym told ∙ good, lt-ltb (length yeses) (rows_size (o + k)) h)

      pub no_short : length noes < rows_size (o + k) → Err ShortBuffer ≡ answered_in_rows o k yeses noes x y
      no_short h = rw (le-ltb node_limit (o + k) few, sym told ∙ good, lt-ltb (length noes) (rows_size (o + k)) h, or_true (ltb (length yeses) (rows_size (o + k))))

      -- Number 0.
      pub answer_done : rows_size (o + k) ≤ length yeses → rows_size (o + k) ≤ length noes → {p q : Bool} {a : Answer}
          → p ≡ bit_at yeses (x * width (o + k)) y → q ≡ bit_at noes (x * width (o + k)) y → a ≡ answer_of_bits p q → Ok a ≡ answered_in_rows o k yeses noes x y
      answer_done h g e f r =
          rw (le-ltb node_limit (o + k) few, sym told ∙ good, le-ltb (length yeses) (rows_size (o + k)) h, le-ltb (length noes) (rows_size (o + k)) g)
          (ap Ok (r ∙ rw (e, f) refl))

-- The place of a good pair's bit lies inside the rows.
pub place_in : (o n x y z : ℕ) {bad : Bool} → bad ≡ bad_pair o n x y → bad ≡ false → n * width n ≤ z → x * width n + y / 64 < z
place_in o n x y z told good room =
    let pair = (good_pair o n x y).0 (sym told ∙ good) in
    let e = mul-le-mul_right (width n) pair.node in
    omega (arith, pair.high)
