use Prim.Native.Nat.{ℕ, ◌+◌, ◌*◌, ◌-◌, ◌^◌, ◌<◌, ◌≤◌}
use mathlib.Core.Path.{◌≡◌, refl, sym, ap, ◌∙◌}
use native.Mathlib.Omega.{arith}
use lib.Bits.{bit_and}
use lib.Count.{count_trailing_zeros}
use Rattle.rows_steps.specs.Members.{members}
use Rattle.rows_steps.specs.Rows.{gain}
use Rattle.rows_steps.specs.Steps.{gather_nodes}
use Rattle.rows_steps.proofs.Members.{rest_less}
use Rattle.rows_steps.proofs.Places.{row_ends}
use Rattle.rows_filling.specs.Below.{Below}
use Rattle.rows_filling.proofs.Gathered.{next_below, rest_below, nodes_go, nodes_end}
use Rattle.rows_filling.proofs.gather_word.Goals as goal

-- What is left of a word without its first node.
abbrev without : ℕ → ℕ
without v = bit_and v (v - 1)

without_small : (v : ℕ) → (v ≡ 0 → ⊥) → v < 2 ^ 64 → without v < 2 ^ 64
without_small v some small = omega (arith, rest_less v some small)

-- The row of the first node stands inside the rows,
first_ends : (base n w v : ℕ) → (v ≡ 0 → ⊥) → v < 2 ^ 64 → Below base n v → (base + count_trailing_zeros 64 v) * w + w ≤ n * w
first_ends base n w v some small below = row_ends w (base + count_trailing_zeros 64 v) n (next_below v some small base n below)

-- and so does that of the second.
second_ends : (base n w v : ℕ) → (v ≡ 0 → ⊥) → (without v ≡ 0 → ⊥) → v < 2 ^ 64 → Below base n v → (base + count_trailing_zeros 64 (without v)) * w + w ≤ n * w
second_ends base n w v some more small below = first_ends base n w (without v) more (without_small v some small) (rest_below v some small base n below)

pub loop-left-init : goal.loop-left-init
loop-left-init c = (c.ranges.word.fits, c.requires.3, refl, refl)

pub overflow_mul-base : goal.overflow_mul-base
overflow_mul-base c =
    omega (arith, first_ends c.args.base c.args.n c.args.w c.loop-left.left c.loop-left-test.true c.loop-left.invariant.0 c.loop-left.invariant.1)

pub join_rows-requires : goal.join_rows-requires
join_rows-requires c =
    let ends = first_ends c.args.base c.args.n c.args.w c.loop-left.left c.loop-left-test.true c.loop-left.invariant.0 c.loop-left.invariant.1 in
    (omega arith, omega arith)

pub returns-then-rest-eq0 : goal.returns-then-rest-eq0
returns-then-rest-eq0 c =
    sym (c.loop-left.invariant.3
    ∙ nodes_go c.loop-left.left c.loop-left-test.true c.loop-left.invariant.0 c.args.w c.args.base c.args.rows.now c.loop-left.row
    ∙ ap (gather_nodes c.args.w c.args.base (members (without c.loop-left.left)) c.args.rows.now) (sym c.join_rows.ensures)
    ∙ nodes_end c.args.w c.args.base (without c.loop-left.left) c.args.rows.now c.join_rows.new.rows c.if-rest-eq0.true)

pub overflow_mul-base-in-loop-left : goal.overflow_mul-base-in-loop-left
overflow_mul-base-in-loop-left c =
    omega (arith, first_ends c.args.base c.args.n c.args.w c.loop-left.left c.loop-left-test.true c.loop-left.invariant.0 c.loop-left.invariant.1)

pub overflow_mul-base-in-loop-left-2 : goal.overflow_mul-base-in-loop-left-2
overflow_mul-base-in-loop-left-2 c =
    omega (arith, second_ends c.args.base c.args.n c.args.w c.loop-left.left c.loop-left-test.true c.if-rest-eq0.false c.loop-left.invariant.0 c.loop-left.invariant.1)

pub join_two-requires : goal.join_two-requires
join_two-requires c =
    let one = first_ends c.args.base c.args.n c.args.w c.loop-left.left c.loop-left-test.true c.loop-left.invariant.0 c.loop-left.invariant.1 in
    let two = second_ends c.args.base c.args.n c.args.w c.loop-left.left c.loop-left-test.true c.if-rest-eq0.false c.loop-left.invariant.0 c.loop-left.invariant.1 in
    (omega arith, omega arith, omega arith)

pub loop-left-smaller : goal.loop-left-smaller
loop-left-smaller c =
    let small = without_small c.loop-left.left c.loop-left-test.true c.loop-left.invariant.0 in
    omega (arith, rest_less c.loop-left.left c.loop-left-test.true c.loop-left.invariant.0, rest_less (without c.loop-left.left) c.if-rest-eq0.false small)

pub loop-left-preserved : goal.loop-left-preserved
loop-left-preserved c =
    let small = without_small c.loop-left.left c.loop-left-test.true c.loop-left.invariant.0 in (
      omega (arith, small, rest_less (without c.loop-left.left) c.if-rest-eq0.false small),
      rest_below (without c.loop-left.left) c.if-rest-eq0.false small c.args.base c.args.n (rest_below c.loop-left.left c.loop-left-test.true c.loop-left.invariant.0 c.args.base c.args.n c.loop-left.invariant.1),
      c.join_two.auto.rows ∙ c.loop-left.invariant.2,
      c.loop-left.invariant.3
          ∙ nodes_go c.loop-left.left c.loop-left-test.true c.loop-left.invariant.0 c.args.w c.args.base c.args.rows.now c.loop-left.row
          ∙ nodes_go (without c.loop-left.left) c.if-rest-eq0.false small c.args.w c.args.base c.args.rows.now (gain 0 ((c.args.base + count_trailing_zeros 64 c.loop-left.left) * c.args.w) c.args.w c.args.rows.now c.loop-left.row)
          ∙ ap (gather_nodes c.args.w c.args.base (members (without (without c.loop-left.left))) c.args.rows.now) (sym c.join_two.ensures),
    )

pub returns : goal.returns
returns c =
    sym (c.loop-left.invariant.3 ∙ nodes_end c.args.w c.args.base c.loop-left.left c.args.rows.now c.loop-left.row c.loop-left-test.false)
