-- What a byte answers, as the code reads it, and the numbers of answers.
use Prim.Native.Nat.{ℕ, ◌/◌, ◌%◌, ◌≤◌}
use mathlib.Core.Path.{◌≡◌}
use native.Mathlib.Omega.{arith}
use Rattle.theory.proofs.machine.Bytes.{has_U, no_U, has_F, no_F}
use Rattle.question.specs.Table.{answer_at, answer_number}
use Rattle.question.specs.declared.Answer.{Answer}
use Rattle.question.specs.declared.Answer.TheVariants.{None, Yes, No, Both}

module _ (b : ℕ) where
  pub answer_both : b / 4 % 2 ≡ 1 → b / 2 % 2 ≡ 1 → Both ≡ answer_at b
  answer_both u f = rw (has_U b u, has_F b f)

  pub answer_yes : b / 4 % 2 ≡ 1 → (b / 2 % 2 ≡ 1 → ⊥) → Yes ≡ answer_at b
  answer_yes u f = rw (has_U b u, no_F b f)

  pub answer_no : (b / 4 % 2 ≡ 1 → ⊥) → b / 2 % 2 ≡ 1 → No ≡ answer_at b
  answer_no u f = rw (no_U b u, has_F b f)

  pub answer_none : (b / 4 % 2 ≡ 1 → ⊥) → (b / 2 % 2 ≡ 1 → ⊥) → None ≡ answer_at b
  answer_none u f = rw (no_U b u, no_F b f)

-- An answer's number is at most 3.
pub answer_low : (a : Answer) → answer_number a ≤ 3
answer_low None = omega arith
answer_low Yes = omega arith
answer_low No = omega arith
answer_low Both = omega arith
