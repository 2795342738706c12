-- What the tests of the check decide.
use Prim.Native.Nat.{ℕ, ◌+◌}
use mathlib.Core.Path.{◌≡◌, refl, sym, ap, ◌∙◌}
use mathlib.Core.Bool.{Bool, true, false, cond, not, ◌&&◌, ◌||◌}
use mathlib.Core.List.Memᴰ
use mathlib.Core.List.{List, [], ◌∷◌, ◌++◌, Memᴰ}
use mathlib.Core.Logic.{inl, inr, ⊎_elim}
use native.Mathlib.Omega.{arith}
use lib.Dec.{eqb, ltb, leb}
use borrow.Author.Tests.{eq-eqb, ne_eqb}
use Rattle.theory_laws.proofs.Booleans.{contradiction, or_none_left, or_none_right}
use Rattle.theory_laws.specs.Deciding.{Decides}
use Rattle.theory_laws.proofs.Deciding.{decides_equal, decides_below, decides_most, decides_both, decides_either, decides_same}
use Rattle.theory.specs.Words.{tail_of}
use Rattle.theory.specs.Nets.{Kind, LegalWords}
use Rattle.theory.specs.Sequents.{Individual, Fresh}
use Rattle.proof_form.specs.Checker.{individual, kind, stands_in, about, given}

-- A test decides which of two values it is.
pub by_test : {T : Type 0} (P : T → Type 0) (b : Bool) (x y : T) → (b ≡ true → P x) → (b ≡ false → P y) → P (cond b x y)
by_test P true x y f g = f refl
by_test P false x y f g = g refl

pub decides_individual : (o k a : ℕ) → Decides (individual o (o + k) a) (Individual o k a)
decides_individual o k a = decides_either (ltb a o) (eqb a (o + k)) (decides_below a o) (decides_equal a (o + k))

pub decides_kind : (o k p : ℕ) → Decides (kind o (o + k) p) (Kind o k p)
decides_kind o k p = decides_same (kind o (o + k) p) (decides_both (leb o p) (ltb p (o + k)) (decides_most o p) (decides_below p (o + k)))
    (λ h. record { low = h.0; high = h.1 })
    (λ h. (h.low, h.high))

pub decides_stands : (w : ℕ) (l : List ℕ) → Decides (stands_in w l) (Memᴰ w l)
unfolding stands_in
decides_stands w [] = (λ e. contradiction e, λ m. elim m [ ])
decides_stands w (v ∷ l) = decides_same (eqb v w || stands_in w l) (decides_either (eqb v w) (stands_in w l) (decides_equal v w) (decides_stands w l))
    (⊎_elim (λ e. Memᴰ.head (sym e)) Memᴰ.tail)
    (λ m. ⊎_elim (λ e. inl (sym e)) inr (Memᴰ.cases_cons m))

pub decides_given : (ws A : List ℕ) (w : ℕ) → Decides (given ws A w) (Memᴰ w (A ++ ws))
decides_given ws A w = decides_same (given ws A w) (decides_either (stands_in w A) (stands_in w ws) (decides_stands w A) (decides_stands w ws))
    (⊎_elim (Memᴰ.append_left ws) (Memᴰ.append_right A))
    (λ m. Memᴰ.append_cases A m)

not_about : (n : ℕ) (A : List ℕ) → about n A ≡ false → Fresh n A
unfolding about
not_about n [] e w m f = elim m [ ]
not_about n (v ∷ A) e w m f = ⊎_elim
    (λ g. contradiction (sym (or_none_left (eqb (tail_of v) n) (about n A) e) ∙ eq-eqb (tail_of v) n (ap tail_of (sym g) ∙ f)))
    (λ m. not_about n A (or_none_right (eqb (tail_of v) n) (about n A) e) w m f)
    (Memᴰ.cases_cons m)

about_not : (n : ℕ) (A : List ℕ) → Fresh n A → about n A ≡ false
unfolding about
about_not n [] f = refl
about_not n (v ∷ A) f = rw (ne_eqb (tail_of v) n (f v (Memᴰ.head refl)), about_not n A (λ w m. f w (Memᴰ.tail m)))

not_not : (b : Bool) → not b ≡ true → b ≡ false
not_not true e = contradiction e
not_not false e = refl

pub decides_fresh : (o k : ℕ) (ws A : List ℕ) → LegalWords o k ws → Decides (not (about (o + k) A)) (Fresh (o + k) (A ++ ws))
decides_fresh o k ws A legal = (
  (λ e w m f. ⊎_elim (λ m. not_about (o + k) A (not_not (about (o + k) A) e) w m f) (λ m. let h = (legal w m).tail in omega (arith, h, f)) (Memᴰ.append_cases A m)),
  λ f. ap not (about_not (o + k) A (λ w m. f w (Memᴰ.append_left ws m))),
)

-- Tests one after the other: the first that fails decides, or the last.
module _ (p q : Bool) where
  pub fails : p ≡ false → false ≡ (p && q)
  fails e = rw e

  pub passes : {r : Bool} → p ≡ true → r ≡ q → r ≡ (p && q)
  passes e f = rw (e, f)
