-- What each answer of the test means: number 13 is given exactly for what is no table, yes and no exactly as the statement holds or not.
use Rattle.std.specs.Prelude.{Ok, false, true}
use Prim.Native.Nat.{ℕ, zero, suc, ◌+◌, ◌*◌, ◌≤◌, ◌<◌}
use mathlib.Core.Path.{◌≡◌, refl, sym, ap, ◌∙◌}
use mathlib.Core.Bool.{Bool, true, false, not, ◌&&◌}
use mathlib.Core.List.{List}
use mathlib.Core.Logic.{◌↔◌}
use native.Mathlib.Omega.{arith}
use native.Mathlib.Decide.{ℕ_discrete}
use borrow.Author.Tests.{le-ltb, ltb-true, ltb-false, not-false}
use lib.Dec.{ltb, leb}
use lib.ListN.{length, get_or}
use Rattle.theory_laws.specs.Deciding.{Decides}
use Rattle.theory_laws.proofs.Booleans.{contradiction, or_none_left, or_none_right, not_so}
use Rattle.theory_laws.proofs.Deciding.{decides_most, decides_both, decides_same}
use Rattle.theory.specs.Words.{node_limit, sign_at}
use Rattle.theory.specs.Valuations.{HoldsIn, Valued, table_valuation, satisfies}
use Rattle.theory.proofs.valuation.Tables.{satisfies_decides}
use Rattle.net.specs.Table.{bad_statement}
use Rattle.net.specs.Good.{GoodStatement}
use Rattle.net.proofs.Good.{good_statement}
use Rattle.satisfies.specs.Table.{low_bytes, bad_table, tested_by, tested_reply}
use Rattle.satisfies.specs.Table.{Tested}
use Rattle.satisfies.proofs.Outcomes.{test_many, test_bad, test_table}

low_decides : (t : List ℕ) (i j : ℕ) → Decides (low_bytes t i j) ((v : ℕ) → i ≤ v → v < i + j → get_or t v 0 ≤ 3)
unfolding low_bytes
low_decides t i zero = (λ e v h l. absurd (omega arith), λ f. refl)
low_decides t i (suc j) =
    decides_same (leb (get_or t i 0) 3 && low_bytes t (suc i) j) (decides_both (leb (get_or t i 0) 3) (low_bytes t (suc i) j) (decides_most (get_or t i 0) 3) (low_decides t (suc i) j))
    (λ f v h l. pick f v h l (ℕ_discrete i v))
    (λ f. (f i (omega arith) (omega arith), λ v h l. f v (omega arith) (omega arith)))
  where
    pick : (get_or t i 0 ≤ 3) × ((v : ℕ) → suc i ≤ v → v < suc i + j → get_or t v 0 ≤ 3) → (v : ℕ) → i ≤ v → v < i + suc j → Dec (i ≡ v) → get_or t v 0 ≤ 3
    pick f v h l (yes e) = rw (← e) f.0
    pick f v h l (no e) = f.1 v (omega arith) (omega arith)

-- The test of number 13 fails exactly for a table.
pub bad_table_exactly : (n k : ℕ) (t : List ℕ) → (bad_table n k t ≡ false) ↔ Valued n k t
bad_table_exactly n k t = (to, from)
  where
    to : bad_table n k t ≡ false → Valued n k t
    to h =
        let low = not-false (low_bytes t 0 (n * k)) (or_none_right (ltb (length t) (n * k)) (not (low_bytes t 0 (n * k))) h) in
        record {
          long = ltb-false (length t) (n * k) (or_none_left (ltb (length t) (n * k)) (not (low_bytes t 0 (n * k))) h);
          low = λ i l. (low_decides t 0 (n * k)).0 low i (omega arith) (omega arith);
        }

    from : Valued n k t → bad_table n k t ≡ false
    from v = rw (le-ltb (length t) (n * k) v.long, (low_decides t 0 (n * k)).1 (λ i h l. v.low i (omega arith)))

-- Which of the two was answered tells which way the test went.
abbrev told : Bool → Tested
told b = Ok b

held : (b : Bool) → told b ≡ Ok true → b ≡ true
held true e = refl
held false e = absurd (omega (arith, ap (λ (r : Tested). (tested_reply r).first) e))

failed : (b : Bool) → told b ≡ Ok false → b ≡ false
failed true e = absurd (omega (arith, ap (λ (r : Tested). (tested_reply r).first) e))
failed false e = refl

module _ (o k : ℕ) (t : List ℕ) (x y sign : ℕ) where
  -- What is tested: few enough nodes, a statement that may be asked of them, and a table.
  abbrev pub Testable : Type 0
  Testable = (o + k ≤ node_limit) × GoodStatement o (o + k) x y sign × Valued (o + k) k t

  -- What number 0 is given to.
  was_testable : (tested_reply (tested_by o k t x y sign)).number ≡ 0 → Testable
  was_testable e =
      let few = ltb-false node_limit (o + k) (not_so (ltb node_limit (o + k)) (λ h. absurd (omega (arith, other (test_many o k t x y sign (ltb-true node_limit (o + k) h)))))) in
      let good = not_so (bad_statement o (o + k) x y sign) (λ h. absurd (omega (arith, other (test_bad o k t x y sign few refl h)))) in
      let table = not_so (bad_table (o + k) k t) (λ h. absurd (omega (arith, other (test_table o k t x y sign few refl good refl h)))) in
      (few, (good_statement o (o + k) x y sign).0 good, (bad_table_exactly (o + k) k t).0 table)
    where
      other : {r : Tested} → r ≡ tested_by o k t x y sign → (tested_reply r).number ≡ 0
      other f = ap (λ (r : Tested). (tested_reply r).number) f ∙ e

  answered : Testable → tested_by o k t x y sign ≡ Ok (satisfies o k t x y (sign_at sign))
  answered h = rw (le-ltb node_limit (o + k) h.0, (good_statement o (o + k) x y sign).1 h.1, (bad_table_exactly (o + k) k t).1 h.2)

  -- Yes exactly if the statement holds in the valuation that the table stands for.
  pub test_holds_exactly : (tested_by o k t x y sign ≡ Ok true) ↔ (Testable × HoldsIn (table_valuation o k t) x y (sign_at sign))
  test_holds_exactly = (to, λ h. answered h.0 ∙ rw ((satisfies_decides o k t x y (sign_at sign)).1 h.1))
    where
      to : tested_by o k t x y sign ≡ Ok true → Testable × HoldsIn (table_valuation o k t) x y (sign_at sign)
      to e =
          let h = was_testable (ap (λ (r : Tested). (tested_reply r).number) e) in
          (h, (satisfies_decides o k t x y (sign_at sign)).0 (held (satisfies o k t x y (sign_at sign)) (sym (answered h) ∙ e)))

  -- No exactly if it does not.
  pub test_fails_exactly : (tested_by o k t x y sign ≡ Ok false) ↔ (Testable × (HoldsIn (table_valuation o k t) x y (sign_at sign) → ⊥))
  test_fails_exactly = (to, from)
    where
      to : tested_by o k t x y sign ≡ Ok false → Testable × (HoldsIn (table_valuation o k t) x y (sign_at sign) → ⊥)
      to e =
          let h = was_testable (ap (λ (r : Tested). (tested_reply r).number) e) in
          let f = failed (satisfies o k t x y (sign_at sign)) (sym (answered h) ∙ e) in
          (h, λ i. contradiction (sym f ∙ (satisfies_decides o k t x y (sign_at sign)).1 i))

      from : Testable × (HoldsIn (table_valuation o k t) x y (sign_at sign) → ⊥) → tested_by o k t x y sign ≡ Ok false
      from h =
          let f : satisfies o k t x y (sign_at sign) ≡ false =
          not_so (satisfies o k t x y (sign_at sign)) (λ (e : satisfies o k t x y (sign_at sign) ≡ true). h.1 ((satisfies_decides o k t x y (sign_at sign)).0 e)) in
          answered h.0 ∙ rw f
