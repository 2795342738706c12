-- Each outcome of a clash test, in the terms of the code.
use Rattle.std.specs.Prelude.{Ok, Err, Some, None}
use Prim.Native.Nat.{ℕ, ◌<◌, ◌≤◌}
use mathlib.Core.Path.{◌≡◌, refl, ap, ◌∙◌}
use mathlib.Core.Bool.{cond}
use mathlib.Core.List.{List, ◌++◌}
use borrow.Author.Tests.{lt-ltb, le-ltb}
use lib.ListN.{length, drop, replicate}
use Rattle.net.specs.Clauses.{call}
use Rattle.net.specs.declared.Refusal.TheVariants.{ShortBuffer}
use Rattle.scan_start.specs.Starts.{cleared}
use Rattle.clash.specs.Table.{Clashed, clash_outcome, nowhere, clash_clauses, clash_done}

-- What a search comes to, by numbers 7 and 0.
clash_over : (c : Clashed) (m : List ℕ) → clash_outcome c m ≡ cond (nowhere c) (clash_outcome (Ok None) m) (clash_outcome c m)
clash_over (Ok (Some found)) m = refl
clash_over (Ok None) m = refl
clash_over (Err r) m = refl

module _ (found : Clashed) (m : List ℕ) (n : ℕ) where
  -- Number 5.
  pub clash_short : length m < n → clash_outcome (Err ShortBuffer) m ≡ call (clash_clauses found m n) (clash_done found m n)
  clash_short h = rw (lt-ltb (length m) n h)

  -- Numbers 7 and 0: the code searched, was left with the marks m₁, and cleared them to m₂.
  pub clash_done_lem : n ≤ length m → (m₁ m₂ : List ℕ) (r : Clashed) → r ≡ found → drop n m₁ ≡ drop n m → m₂ ≡ replicate n 0 ++ drop n m₁
      → clash_outcome r m₂ ≡ call (clash_clauses found m n) (clash_done found m n)
  clash_done_lem h m₁ m₂ r f p c =
      rw (le-ltb (length m) n h) (both f (c ∙ ap (λ (q : List ℕ). replicate n 0 ++ q) p) ∙ clash_over found (cleared n m))
    where
      both : {a b : Clashed} {p q : List ℕ} → a ≡ b → p ≡ q → clash_outcome a p ≡ clash_outcome b q
      both e f = λ i. record { answer = e i; marks = f i }
