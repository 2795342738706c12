-- Each outcome of a valuation, in the terms of the code.
use Rattle.valuation.specs.declared.ValuationError.TheVariants as filled
use Rattle.std.specs.Prelude.{Err, Ok}
use Prim.Native.Nat.{ℕ, ◌*◌, ◌<◌, ◌≤◌}
use mathlib.Core.Path.{◌≡◌, ap, ◌∙◌}
use mathlib.Core.List.{List, ◌++◌}
use borrow.Author.Tests.{lt-ltb, le-ltb}
use lib.ListN.{length, drop, replicate}
use Rattle.theory_laws.specs.Over.{over}
use Rattle.net.specs.Clauses.{call}
use Rattle.net.specs.declared.Refusal.TheVariants.{ShortBuffer}
use Rattle.valuation.specs.Table.{valuation_outcome, valuation_clauses, valuation_done}

module _ (k : ℕ) (values t m : List ℕ) (n : ℕ) where
  -- Number 5.
  pub fill_unmarked : length m < n → valuation_outcome (Err (filled.Refused ShortBuffer)) t m ≡ call (valuation_clauses k t m n) (valuation_done values t m n)
  fill_unmarked h = rw (lt-ltb (length m) n h)

  -- Number 13.
  pub fill_short : n ≤ length m → length t < n * k → valuation_outcome (Err filled.ShortTable) t m ≡ call (valuation_clauses k t m n) (valuation_done values t m n)
  fill_short h l = rw (le-ltb (length m) n h, lt-ltb (length t) (n * k) l)

  -- Number 0: the code wrote, was left with the marks m₁, and cleared them.
  pub fill_done : n ≤ length m → n * k ≤ length t → (t₁ m₁ m₂ : List ℕ) → t₁ ≡ over values t → drop n m₁ ≡ drop n m → m₂ ≡ replicate n 0 ++ drop n m₁
      → valuation_outcome (Ok tt) t₁ m₂ ≡ call (valuation_clauses k t m n) (valuation_done values t m n)
  fill_done h l t₁ m₁ m₂ w p c = rw (le-ltb (length m) n h, le-ltb (length t) (n * k) l) (same w (c ∙ ap (λ (q : List ℕ). replicate n 0 ++ q) p))
    where
      same : {t t' m m' : List ℕ} → t ≡ t' → m ≡ m' → valuation_outcome (Ok tt) t m ≡ valuation_outcome (Ok tt) t' m'
      same f g = λ i. record { answer = Ok tt; table = f i; marks = g i }
