-- The number table of one call: its clauses in the paper's order.
use Rattle.std.specs.Prelude.{ℕ, Bool, cond, List, [], ◌∷◌}

-- A clause: its number, whether its condition holds of this call, and what it gives and leaves.
pub record Clause (A : Type 0) : Type 0 where
  pub number : ℕ
  pub applies : Bool
  pub outcome : A

abbrev pub clause : {A : Type 0} → ℕ → Bool → A → Clause A
clause n t r = record { number = n; applies = t; outcome = r }

-- The call: the first clause that applies decides; where none does, it is done.
abbrev pub call : {A : Type 0} → List (Clause A) → A → A
call [] done = done
call (l ∷ ls) done = cond l.applies l.outcome (call ls done)
