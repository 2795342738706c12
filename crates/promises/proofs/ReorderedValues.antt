-- Links stand in any order and a repeated word counts once: over two nets of which the same words are chosen a valuation does the same.
use Prim.Native.Nat.{ℕ, zero, suc, ◌+◌, ◌≤◌}
use mathlib.Core.Path.{◌≡◌, refl, sym, ap, ◌∙◌}
use mathlib.Core.List.{List}
use native.Mathlib.Omega.{arith}
use Rattle.std.specs.Prelude.{Err}
use Rattle.theory.specs.Nets.{Net, AllIn}
use Rattle.theory.specs.Origins.{chosen}
use Rattle.net.specs.Clauses.{call}
use Rattle.net.specs.declared.Refusal.{Refusal}
use Rattle.net.proofs.NetCheck.{net_is_checked}
use Rattle.net.proofs.OnNet.{gone_on}
use Rattle.valuation.specs.Values.{value_rows, own_values}
use Rattle.valuation.specs.Table.{ValuationOutcome, valuation_outcome, valuation_clauses, valuation_done, filled_by}
use Rattle.valuation.specs.declared.ValuationError.TheVariants as filled
use Rattle.promises.specs.Engines.{Read}
use Rattle.promises.proofs.Tests.{chosen_of}
use Rattle.promises.proofs.Reordered.{full_same}

module _ (o k : ℕ) (ws vs : List ℕ) (n : Net o k ws) (p : Net o k vs) (to : AllIn ws vs) (from : AllIn vs ws) where
  value_rows_same : (x j : ℕ) → x + j ≤ o + k → value_rows o k ws x j ≡ value_rows o k vs x j
  unfolding value_rows
  value_rows_same x zero h = refl
  value_rows_same x (suc j) h = rw (full_same o k ws vs n p to from x (omega arith), value_rows_same (suc x) j (omega arith))

  own_same : own_values o k ws ≡ own_values o k vs
  unfolding own_values
  own_same = value_rows_same 0 (o + k) (omega arith)

-- Two nets, each read with its set.
module _ (o k : ℕ) (ws : List ℕ) (set : ℕ) (vs : List ℕ) (set' : ℕ) (n : Read o k ws set) (p : Read o k vs set') (to : AllIn (chosen set ws) (chosen set' vs)) (from : AllIn (chosen set' vs) (chosen set ws)) where
  pub valuation_order : (t m : List ℕ) → filled_by o k ws set t m ≡ filled_by o k vs set' t m
  valuation_order t m =
      let refused : Refusal → ValuationOutcome = λ r. valuation_outcome (Err (filled.Refused r)) t m in
      sym (gone_on refused o k ws set (valuation_clauses k t m) (valuation_done (own_values o k (chosen set ws)) t m) (net_is_checked o k ws set n.allowed n.net) refl)
      ∙ ap (λ (values : List ℕ). call (valuation_clauses k t m (o + k)) (valuation_done values t m (o + k)))
      (own_same o k (chosen set ws) (chosen set' vs) (chosen_of o k ws set n) (chosen_of o k vs set' p) to from)
      ∙ gone_on refused o k vs set' (valuation_clauses k t m) (valuation_done (own_values o k (chosen set' vs)) t m) (net_is_checked o k vs set' p.allowed p.net) refl
