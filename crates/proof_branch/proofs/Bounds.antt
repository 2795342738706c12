-- A walk goes forwards, and meets no more branches than steps.
use Prim.Native.Nat.{ℕ, zero, suc, ◌+◌, ◌-◌, ◌*◌, ◌/◌, ◌≤◌}
use mathlib.Core.Path.{◌≡◌, subst}
use mathlib.Core.Bool.{Bool, ◌&&◌}
use mathlib.Core.List.{List, ◌∷◌}
use native.Mathlib.Omega.{arith}
use lib.Dec.{leb}
use lib.ListN.{length, get_or}
use Rattle.proof_form.specs.Checker.{asks, fits, main_premise, premises, sequent}
use Rattle.proof_form.specs.declared.Asks.{Asks}
use Rattle.proof_form.specs.declared.Asks.TheVariants.{Broken, Nothing, One, Two}
use Rattle.proof_form.specs.declared.Walked.{Walked}
use Rattle.proof_form.specs.declared.Walked.TheVariants.{Upto, Fault, Cut}
use Rattle.proof_form.proofs.Tests.{by_test}

abbrev pub Bounded : ℕ → Walked → Type 0
Bounded i (Upto e m u) = (i ≤ e) × (m ≤ e + 1)
Bounded i (Fault e) = Unit {0}
Bounded i Cut = Unit {0}

later : (i e : ℕ) → i ≤ e → (r : Walked) → Bounded e r → Bounded i r
later i e h (Upto f m u) p = (omega (arith, h, p.0), p.1)
later i e h (Fault f) p = tt
later i e h Cut p = tt

module _ (o n : ℕ) (ws l : List ℕ) (b : ℕ) where
  module _ (d : ℕ) (again : (A : List ℕ) (g i j : ℕ) (t : Bool) → j ≤ i + 1 → Bounded i (sequent o n ws l b d A g i j t)) where
    main_bounded : (A : List ℕ) (g i j : ℕ) (r : Walked) → Bounded i r → Bounded i (main_premise l b (sequent o n ws l b d) A g i j r)
    unfolding main_premise
    main_bounded A g i j (Upto e m u) p = later i e p.0 (sequent o n ws l b d A g e m (u && fits l b j i e)) (again A g e m (u && fits l b j i e) p.1)
    main_bounded A g i j (Fault e) p = tt
    main_bounded A g i j Cut p = tt

    premises_bounded : (A : List ℕ) (g i j : ℕ) (t : Bool) → j ≤ i + 1 → (z : Asks) → Bounded i (premises l b (sequent o n ws l b d) A g i j t z)
    unfolding premises
    premises_bounded A g i j t h Broken = tt
    premises_bounded A g i j t h Nothing = (omega arith, omega arith)
    premises_bounded A g i j t h (One w v) = later i (suc i) (omega arith) (sequent o n ws l b d (w ∷ A) v (suc i) j t) (again (w ∷ A) v (suc i) j t (omega arith))
    premises_bounded A g i j t h (Two v w) =
        later i (suc i) (omega arith) (main_premise l b (sequent o n ws l b d) (w ∷ A) g (suc i) j (sequent o n ws l b d A v (suc i) (suc j) t))
        (main_bounded (w ∷ A) g (suc i) j (sequent o n ws l b d A v (suc i) (suc j) t) (again A v (suc i) (suc j) t (omega arith)))

  pub bounded : (d : ℕ) (A : List ℕ) (g i j : ℕ) (t : Bool) → j ≤ i + 1 → Bounded i (sequent o n ws l b d A g i j t)
  unfolding sequent
  bounded zero A g i j t h = by_test (Bounded i) (leb ((length l - b) / 3) i) Cut (Fault i) (λ e. tt) (λ e. tt)
  bounded (suc d) A g i j t h =
      by_test (Bounded i) (leb ((length l - b) / 3) i) Cut _ (λ e. tt)
      (λ e. premises_bounded d (bounded d) A g i j t h (asks o n ws A g (get_or l (b + 3 * i) 0) (get_or l (b + 3 * i + 1) 0) (get_or l (b + 3 * i + 2) 0)))

  -- Where a walk came to.
  pub came : (d : ℕ) (A : List ℕ) (g i j : ℕ) (t : Bool) (r : Walked) (e m : ℕ) (u : Bool) → j ≤ i + 1 → r ≡ sequent o n ws l b d A g i j t → r ≡ Upto e m u → (i ≤ e) × (m ≤ e + 1)
  came d A g i j t r e m u h f k = subst (Bounded i) k (rw f (bounded d A g i j t h))
