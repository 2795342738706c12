-- The walk over a sequent and over its premises, return by return.
use Prim.Native.Nat.{ℕ, zero, suc, ◌+◌, ◌-◌, ◌*◌, ◌/◌, ◌≤◌, ◌<◌}
use mathlib.Core.Path.{◌≡◌, refl}
use mathlib.Core.Bool.{Bool, ◌&&◌}
use mathlib.Core.List.{List, ◌∷◌}
use mathlib.Core.Logic.{◌⊎◌, inl, inr}
use native.Mathlib.Omega.{arith}
use native.Mathlib.Numerals.{add-one, sub-one}
use lib.ListN.{length, get_or}
use borrow.Author.Tests.{le-leb, lt-leb}
use Rattle.proof_form.specs.Checker.{Walk, asks, fits, main_premise, premises, sequent}
use Rattle.proof_form.specs.declared.Asks.{Asks}
use Rattle.proof_form.specs.declared.Asks.TheVariants.{Broken, Nothing, One, Two}
use Rattle.proof_form.specs.declared.Walked.{Walked}
use Rattle.proof_form.specs.declared.Walked.TheVariants.{Upto, Fault, Cut}

module _ (o n : ℕ) (ws l : List ℕ) (b d : ℕ) (A : List ℕ) (g i j : ℕ) (t : Bool) where
  pub sequent_cut : (length l - b) / 3 ≤ i → Cut ≡ sequent o n ws l b d A g i j t
  unfolding sequent
  sequent_cut h = at d
    where
      at : (d : ℕ) → Cut ≡ sequent o n ws l b d A g i j t
      at zero = rw (le-leb ((length l - b) / 3) i h)
      at (suc d) = rw (le-leb ((length l - b) / 3) i h)

  pub sequent_spent : i < (length l - b) / 3 → d ≡ 0 → Fault i ≡ sequent o n ws l b d A g i j t
  unfolding sequent
  sequent_spent h e = rw (e, lt-leb ((length l - b) / 3) i h)

  pub sequent_more : (r : Walked) (z : Asks) → i < (length l - b) / 3 → (d ≡ 0 → ⊥) → z ≡ asks o n ws A g (get_or l (b + 3 * i) 0) (get_or l (b + 3 * i + 1) 0) (get_or l (b + 3 * i + 2) 0)
      → r ≡ premises l b (sequent o n ws l b (d - 1)) A g i j t z → r ≡ sequent o n ws l b d A g i j t
  unfolding sequent
  sequent_more r z h ne ez er = at d ne er
    where
      at : (d : ℕ) → (d ≡ 0 → ⊥) → r ≡ premises l b (sequent o n ws l b (d - 1)) A g i j t z → r ≡ sequent o n ws l b d A g i j t
      at zero ne er = absurd (ne refl)
      at (suc d) ne er = rw (lt-leb ((length l - b) / 3) i h, ← ez) (rw (sub-one (suc d)) at er)

module _ (l : List ℕ) (b : ℕ) (f : Walk) (A : List ℕ) (g i j : ℕ) (t : Bool) (z : Asks) where
  pub premises_broken : z ≡ Broken → Fault i ≡ premises l b f A g i j t z
  unfolding premises
  premises_broken e = rw e

  pub premises_nothing : z ≡ Nothing → Upto (i + 1) j t ≡ premises l b f A g i j t z
  unfolding premises
  premises_nothing e = rw (e, add-one i)

  pub premises_one : (r : Walked) (w h : ℕ) (B : List ℕ) → z ≡ One w h → B ≡ w ∷ A → r ≡ f B h (i + 1) j t → r ≡ premises l b f A g i j t z
  unfolding premises
  premises_one r w h B e eb er = rw (e, er, eb, add-one i)

  pub premises_fault : (r : Walked) (h w k : ℕ) → z ≡ Two h w → r ≡ f A h (i + 1) (j + 1) t → r ≡ Fault k → r ≡ premises l b f A g i j t z
  unfolding premises main_premise
  premises_fault r h w k e er ek = rw (e, ← (add-one i), ← (add-one j), ← er, ek)

  pub premises_cut : (r : Walked) (h w : ℕ) → z ≡ Two h w → r ≡ f A h (i + 1) (j + 1) t → r ≡ Cut → r ≡ premises l b f A g i j t z
  unfolding premises main_premise
  premises_cut r h w e er ek = rw (e, ← (add-one i), ← (add-one j), ← er, ek)

  pub premises_two : (r q : Walked) (h w k m : ℕ) (u v : Bool) (B : List ℕ) → z ≡ Two h w → r ≡ f A h (i + 1) (j + 1) t → r ≡ Upto k m u → v ≡ fits l b j (i + 1) k → B ≡ w ∷ A → q ≡ f B g k m (u && v)
      → q ≡ premises l b f A g i j t z
  unfolding premises main_premise
  premises_two r q h w k m u v B e er ek ev eb eq = rw (e, ← (add-one i), ← (add-one j), ← er, ek, ← ev, ← eb) eq

  -- A left premise that is not walked to its end ends the walk.
  pub premises_stopped : (tag : Walked → ℕ) → ((k m : ℕ) (u : Bool) → tag (Upto k m u) ≡ 0) → (r : Walked) (h w : ℕ) → z ≡ Two h w → r ≡ f A h (i + 1) (j + 1) t → (tag r ≡ 1) ⊎ (tag r ≡ 2) → r ≡ premises l b f A g i j t z
  premises_stopped tag e0 (Upto k m u) h w e er (inl e') = let n = e0 k m u in absurd (omega (arith, n, e'))
  premises_stopped tag e0 (Upto k m u) h w e er (inr e') = let n = e0 k m u in absurd (omega (arith, n, e'))
  premises_stopped tag e0 (Fault k) h w e er s = premises_fault (Fault k) h w k e er refl
  premises_stopped tag e0 Cut h w e er s = premises_cut Cut h w e er refl
