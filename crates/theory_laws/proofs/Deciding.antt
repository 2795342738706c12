-- Which tests decide a statement: comparisons, and what is built from tests that do.
use Prim.Native.Nat.{ℕ, ◌≤◌, ◌<◌}
use mathlib.Core.Path.{◌≡◌, refl, sym}
use mathlib.Core.Bool.{Bool, true, false, ◌&&◌, ◌||◌, false≢true}
use mathlib.Core.Logic.{◌⊎◌, inl, inr, ◌↔◌, ⊎_elim}
use lib.Dec.{eqb, ltb, leb}
use borrow.Author.Tests.{eqb-true, eq-eqb, ltb-true, lt-ltb, leb-true, le-leb}
use Rattle.theory_laws.specs.Deciding.{Decides}

pub decides_equal : (a b : ℕ) → Decides (eqb a b) (a ≡ b)
decides_equal a b = (eqb-true a b, eq-eqb a b)

pub decides_below : (a b : ℕ) → Decides (ltb a b) (a < b)
decides_below a b = (ltb-true a b, lt-ltb a b)

pub decides_most : (a b : ℕ) → Decides (leb a b) (a ≤ b)
decides_most a b = (leb-true a b, le-leb a b)

pub decides_both : (a b : Bool) {P Q : Type 0} → Decides a P → Decides b Q → Decides (a && b) (P × Q)
decides_both true b f g = (λ e. (f.0 refl, g.0 e), λ p. g.1 p.1)
decides_both false b f g = (λ e. absurd (false≢true e), λ p. f.1 p.0)

pub decides_either : (a b : Bool) {P Q : Type 0} → Decides a P → Decides b Q → Decides (a || b) (P ⊎ Q)
decides_either true b f g = (λ e. inl (f.0 refl), λ p. refl)
decides_either false b f g = (λ e. inr (g.0 e), λ p. ⊎_elim (λ q. absurd (false≢true (f.1 q))) g.1 p)

-- A test that fails exactly if P holds passes exactly if P does not.
pub decides_not : (b : Bool) {P : Type 0} → (b ≡ false) ↔ P → Decides b (P → ⊥)
decides_not true f = (λ e p. false≢true (sym (f.1 p)), λ h. refl)
decides_not false f = (λ e. absurd (false≢true e), λ h. absurd (h (f.0 refl)))

-- A statement that says the same may take its place.
pub decides_same : (b : Bool) {P Q : Type 0} → Decides b P → (P → Q) → (Q → P) → Decides b Q
decides_same b d f g = (λ e. f (d.0 e), λ q. d.1 (g q))
