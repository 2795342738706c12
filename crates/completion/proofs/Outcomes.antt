-- Each outcome of a completion, in the terms of the code.
use Rattle.completion.specs.declared.CompletionError.TheVariants as completed
use Rattle.std.specs.Prelude.{Err, Ok}
use Prim.Native.Nat.{ℕ, ◌*◌, ◌<◌, ◌≤◌}
use mathlib.Core.Path.{◌≡◌, refl, ap, ◌∙◌}
use mathlib.Core.List.{List, ◌++◌}
use native.Mathlib.Omega.{arith}
use native.Mathlib.Nat.{mul-le-mul_right}
use borrow.Author.Tests.{lt-ltb, le-ltb}
use lib.ListN.{length, drop, replicate}
use Rattle.theory_laws.specs.Over.{over}
use Rattle.net.specs.Clauses.{call}
use Rattle.net.specs.declared.Refusal.TheVariants.{ShortBuffer}
use Rattle.completion.specs.Table.{completion_outcome, completion_clauses, completion_done}
use Rattle.completion.specs.Table.{Completed}

same : {r q : Completed} {m m' l l' : List ℕ} → r ≡ q → m ≡ m' → l ≡ l' → completion_outcome r m l ≡ completion_outcome q m' l'
same e f g = λ i. record { answer = e i; marks = f i; list = g i }

-- Two places for each node and kind are few enough to be counted.
pub few_places : (n k : ℕ) → n ≤ 1024 → k ≤ 1024 → n * (k * 2) ≤ 2097152
few_places n k h g = let e = mul-le-mul_right (k * 2) h in omega arith

module _ (all m l : List ℕ) (n : ℕ) where
  -- Number 5.
  pub complete_unmarked : length m < n → completion_outcome (Err (completed.Refused ShortBuffer)) m l ≡ call (completion_clauses all m l n) (completion_done all m l n)
  complete_unmarked h = rw (lt-ltb (length m) n h)

  -- The code counted, and was left with the marks m₁.
  module _ (h : n ≤ length m) (size : ℕ) (e : size ≡ length all) (m₁ : List ℕ) (p : drop n m₁ ≡ drop n m) where
    -- Number 8: it cleared the marks.
    pub complete_short : length l < size → (m₂ : List ℕ) → m₂ ≡ replicate n 0 ++ drop n m₁ → completion_outcome (Err (completed.Short size)) m₂ l ≡ call (completion_clauses all m l n) (completion_done all m l n)
    complete_short f m₂ c =
        let g : length l < length all = omega (arith, e) in
        rw (le-ltb (length m) n h, lt-ltb (length l) (length all) g)
        (same (ap (λ (q : ℕ). Err (completed.Short q)) e) (c ∙ ap (λ (q : List ℕ). replicate n 0 ++ q) p) refl)

    -- Number 0: it wrote, was left with the marks m₂, and cleared them.
    pub complete_done : size ≤ length l → (m₂ m₃ l₁ : List ℕ) → drop n m₂ ≡ drop n m₁ → m₃ ≡ replicate n 0 ++ drop n m₂ → l₁ ≡ over all l
        → completion_outcome (Ok size) m₃ l₁ ≡ call (completion_clauses all m l n) (completion_done all m l n)
    complete_done f m₂ m₃ l₁ q c w =
        let g : length all ≤ length l = omega (arith, e) in
        rw (le-ltb (length m) n h, le-ltb (length l) (length all) g)
        (same (ap Ok e) (c ∙ ap (λ (r : List ℕ). replicate n 0 ++ r) (q ∙ p)) w)

  -- What stands in the marks of the nodes plays no part: the code may have scanned, and been left with the marks m₁.
  pub complete_spoilt : n ≤ length m → (m₁ : List ℕ) → length m₁ ≡ length m → drop n m₁ ≡ drop n m
      → call (completion_clauses all m₁ l n) (completion_done all m₁ l n) ≡ call (completion_clauses all m l n) (completion_done all m l n)
  complete_spoilt h m₁ e p =
      let g : n ≤ length m₁ = omega (arith, e) in
      rw (le-ltb (length m) n h, le-ltb (length m₁) n g, p)
