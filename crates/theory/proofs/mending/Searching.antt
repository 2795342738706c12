-- The search for the first node that has both markers.
use Prim.Native.Nat.{ℕ, zero, suc, ◌+◌, ◌≤◌, ◌<◌}
use mathlib.Core.Path.{◌≡◌, refl, sym, ◌∙◌}
use mathlib.Core.Bool.{Bool, true, false, cond, ◌&&◌}
use mathlib.Core.List.{List}
use native.Mathlib.Omega.{arith}
use native.Mathlib.Decide.{ℕ_discrete}
use lib.ListN.{get_or}
use Rattle.theory_laws.proofs.Booleans.{contradiction, and_left, and_right, and_both}
use Rattle.theory.specs.Marks.{has, At}
use Rattle.theory.specs.Mending.{first_with}

module _ (a b : ℕ) (m : List ℕ) where
  -- What the search says that came from v over j nodes to r.
  pub record FirstFound (v j r : ℕ) : Type 0 where
    pub low : v ≤ r
    pub high : r ≤ v + j
    pub before : (u : ℕ) → v ≤ u → u < r → At m a u → At m b u → ⊥
    pub here : r < v + j → At m a r × At m b r

  pub first_found : (v j : ℕ) → FirstFound v j (first_with a b m v j)
  unfolding first_with
  first_found v zero = record { low = omega arith; high = omega arith; before = λ u h l p q. absurd (omega arith); here = λ l. absurd (omega arith) }
  first_found v (suc j) = at (has a (get_or m v 0) && has b (get_or m v 0)) refl (first_found (suc v) j)
    where
      at : (q : Bool) → (has a (get_or m v 0) && has b (get_or m v 0)) ≡ q → FirstFound (suc v) j (first_with a b m (suc v) j) → FirstFound v (suc j) (cond q v (first_with a b m (suc v) j))
      at true e f = record {
        low = omega arith;
        high = omega arith;
        before = λ u h l p q. absurd (omega arith);
        here = λ l. (and_left (has a (get_or m v 0)) (has b (get_or m v 0)) e, and_right (has a (get_or m v 0)) (has b (get_or m v 0)) e);
      }
      at false e f = record {
        low = omega (arith, f.low);
        high = omega (arith, f.high);
        before = λ u h l p q. later u h l p q (ℕ_discrete u v);
        here = λ l. f.here (omega arith);
      }
        where
          later : (u : ℕ) → v ≤ u → u < first_with a b m (suc v) j → At m a u → At m b u → Dec (u ≡ v) → ⊥
          later u h l p q (yes i) = contradiction (sym e ∙ and_both (has a (get_or m v 0)) (has b (get_or m v 0)) (rw i at p) (rw i at q))
          later u h l p q (no i) = f.before u (omega arith) l p q
