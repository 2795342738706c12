-- Scans: rounds until one sets nothing, within a budget of rounds.
use Rattle.std.specs.Prelude.{ℕ, zero, suc, ◌*◌, ◌-◌, ◌≤◌, ◌<◌, ◌≡◌, Bool, true, false, ◌&&◌, List, [], ◌∷◌, eqb}
use Rattle.theory.specs.Marks.{round, commands, scan_start}
use Rattle.theory.specs.declared.Command.{Command}

-- The marks after n rounds.
unfoldable pub after : List Command → List ℕ → ℕ → List ℕ → List ℕ
after cs ws zero m = m
after cs ws (suc n) m = round cs ws (after cs ws n m)

-- Two lists of marks are the same.
unfoldable pub same : List ℕ → List ℕ → Bool
same [] [] = true
same [] (b ∷ m) = false
same (a ∷ l) [] = false
same (a ∷ l) (b ∷ m) = eqb a b && same l m

-- What a scan gives: whether it ended within its budget, the rounds run, and the marks left.
pub record Scan : Type 0 where
  pub done : Bool
  pub count : ℕ
  pub marks : List ℕ

-- A scan that has run `count` rounds and may run `budget` more.
unfoldable pub rounds : List Command → List ℕ → ℕ → ℕ → List ℕ → Scan
rounds cs ws count zero m = record { done = false; count = count; marks = m }
rounds cs ws count (suc budget) m =
    elim (same m (round cs ws m)) [
      | true ↦ record { done = true; count = suc count; marks = round cs ws m }
      | false ↦ rounds cs ws (suc count) budget (round cs ws m)
    ]

-- The scan from x over n nodes.
abbrev pub scan : ℕ → List ℕ → ℕ → ℕ → Scan
scan n ws x budget = rounds commands ws 0 budget (scan_start n x)

-- The bound on the count, 3N − 1: a budget that is never spent.
abbrev pub full_budget : ℕ → ℕ
full_budget n = 3 * n - 1

-- The full scan from x, which answers what is asked about x.
abbrev pub full_scan : ℕ → List ℕ → ℕ → Scan
full_scan n ws x = scan n ws x (full_budget n)

-- c is the count: round c is the first that sets nothing, itself included in the count.
pub record Count (cs : List Command) (ws m : List ℕ) (c : ℕ) : Type 0 where
  pub last : ℕ
  pub number : c ≡ suc last
  pub quiet : after cs ws (suc last) m ≡ after cs ws last m
  pub first : (j : ℕ) → j < last → after cs ws (suc j) m ≡ after cs ws j m → ⊥

-- What a scan of the marks m with a budget gives: ended within it, or spent before the last round (number 6).
pub data Runs (cs : List Command) (ws m : List ℕ) (budget : ℕ) (r : Scan) : Type 0 where
  ended : r.done ≡ true → Count cs ws m r.count → r.count ≤ budget → r.marks ≡ after cs ws r.count m → Runs cs ws m budget r
  spent : r.done ≡ false → ((j : ℕ) → j < budget → after cs ws (suc j) m ≡ after cs ws j m → ⊥) → r.count ≡ budget → r.marks ≡ after cs ws budget m
      → Runs cs ws m budget r
