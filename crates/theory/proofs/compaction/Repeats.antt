-- A sorted list without its repeats is ascending and has the same numbers.
use Prim.Native.Nat.{ℕ, suc, ◌≤◌}
use mathlib.Core.Path.{◌≡◌, refl, sym, ap, ◌∙◌}
use mathlib.Core.Bool.{Bool, true, false, cond}
use mathlib.Core.List.Memᴰ
use mathlib.Core.List.{List, [], ◌∷◌, Memᴰ}
use mathlib.Core.Logic.{◌⊎◌, inl, inr, ◌↔◌, ⊎_elim}
use native.Mathlib.Omega.{arith}
use borrow.Author.Tests.{eqb-true, eqb-false}
use lib.Dec.{eqb, leb}
use lib.ListN.{length}
use Rattle.theory.specs.Completion.{Ascending}
use Rattle.theory.specs.Sorting.{Rising, insert, sort, changes_from, without_repeats, tidied}
use Rattle.theory.proofs.compaction.Counting.{times_sort, member_times, times_member}
use Rattle.theory.proofs.compaction.Rising.{sort_rising}

changes_ascending : (p : ℕ) (l : List ℕ) → Rising p l → Ascending (suc p) (changes_from p l)
unfolding changes_from
changes_ascending p [] r = tt
changes_ascending p (w ∷ l) r = at (eqb p w) refl (changes_ascending p l) (changes_ascending w l r.1)
  where
    at : (q : Bool) → eqb p w ≡ q → (Rising p l → Ascending (suc p) (changes_from p l)) → Ascending (suc w) (changes_from w l) → Ascending (suc p) (cond q (changes_from p l) (w ∷ changes_from w l))
    at true e f g = f (rw (eqb-true p w e) r.1)
    at false e f g = let n = eqb-false p w e in let h = r.0 in (omega arith, g)

changes_member : (p : ℕ) (l : List ℕ) (v : ℕ) → Memᴰ v (changes_from p l) → Memᴰ v l
unfolding changes_from
changes_member p [] v m = m
changes_member p (w ∷ l) v m = at (eqb p w) m (changes_member p l v) (changes_member w l v)
  where
    at : (q : Bool) → Memᴰ v (cond q (changes_from p l) (w ∷ changes_from w l)) → (Memᴰ v (changes_from p l) → Memᴰ v l) → (Memᴰ v (changes_from w l) → Memᴰ v l) → Memᴰ v (w ∷ l)
    at true m f g = Memᴰ.tail (f m)
    at false m f g = ⊎_elim (λ e. Memᴰ.head e) (λ n. Memᴰ.tail (g n)) (Memᴰ.cases_cons m)

member_changes : (p : ℕ) (l : List ℕ) (v : ℕ) → Memᴰ v l → (v ≡ p) ⊎ Memᴰ v (changes_from p l)
unfolding changes_from
member_changes p [] v m = inr m
member_changes p (w ∷ l) v m = at (eqb p w) refl (Memᴰ.cases_cons m) (member_changes p l v) (member_changes w l v)
  where
    at : (q : Bool) → eqb p w ≡ q → (v ≡ w) ⊎ Memᴰ v l → (Memᴰ v l → (v ≡ p) ⊎ Memᴰ v (changes_from p l)) → (Memᴰ v l → (v ≡ w) ⊎ Memᴰ v (changes_from w l))
        → (v ≡ p) ⊎ Memᴰ v (cond q (changes_from p l) (w ∷ changes_from w l))
    at true e (inl i) f g = inl (i ∙ sym (eqb-true p w e))
    at true e (inr i) f g = f i
    at false e (inl i) f g = inr (Memᴰ.head i)
    at false e (inr i) f g = inr (⊎_elim (λ j. Memᴰ.head j) (λ j. Memᴰ.tail j) (g i))

changes_length : (p : ℕ) (l : List ℕ) → length (changes_from p l) ≤ length l
unfolding changes_from
changes_length p [] = omega arith
changes_length p (w ∷ l) = at (eqb p w) (changes_length p l) (changes_length w l)
  where
    at : (q : Bool) → length (changes_from p l) ≤ length l → length (changes_from w l) ≤ length l → length (cond q (changes_from p l) (w ∷ changes_from w l)) ≤ suc (length l)
    at true f g = omega arith
    at false f g = omega arith

pub repeats_ascending : (l : List ℕ) → Rising 0 l → Ascending 0 (without_repeats l)
unfolding without_repeats
repeats_ascending [] r = tt
repeats_ascending (w ∷ l) r = (r.0, changes_ascending w l r.1)

pub repeats_same : (l : List ℕ) (v : ℕ) → Memᴰ v (without_repeats l) ↔ Memᴰ v l
unfolding without_repeats
repeats_same [] v = ((λ m. m), λ m. m)
repeats_same (w ∷ l) v = (
  (λ m. ⊎_elim (λ e. Memᴰ.head e) (λ n. Memᴰ.tail (changes_member w l v n)) (Memᴰ.cases_cons m)),
  λ m. ⊎_elim (λ e. Memᴰ.head e) (λ n. ⊎_elim (λ e. Memᴰ.head e) (λ i. Memᴰ.tail i) (member_changes w l v n)) (Memᴰ.cases_cons m),
)

pub repeats_length : (l : List ℕ) → length (without_repeats l) ≤ length l
unfolding without_repeats
repeats_length [] = omega arith
repeats_length (w ∷ l) = omega (arith, changes_length w l)

-- ── of the list sorted first ──
pub sort_same : (l : List ℕ) (v : ℕ) → Memᴰ v (sort l) ↔ Memᴰ v l
sort_same l v = (
  (λ m. times_member v l (omega (arith, times_sort v l, member_times v (sort l) m))),
  λ m. times_member v (sort l) (omega (arith, times_sort v l, member_times v l m)),
)

insert_length : (v : ℕ) (l : List ℕ) → length (insert v l) ≡ suc (length l)
unfolding insert
insert_length v [] = refl
insert_length v (w ∷ l) = at (leb v w) (insert_length v l)
  where
    at : (q : Bool) → length (insert v l) ≡ suc (length l) → length (cond q (v ∷ w ∷ l) (w ∷ insert v l)) ≡ suc (suc (length l))
    at true e = refl
    at false e = omega arith

pub sort_length : (l : List ℕ) → length (sort l) ≡ length l
unfolding sort
sort_length [] = refl
sort_length (w ∷ l) = insert_length w (sort l) ∙ ap suc (sort_length l)

pub tidied_ascending : (l : List ℕ) → Ascending 0 (tidied l)
tidied_ascending l = repeats_ascending (sort l) (sort_rising l)

pub tidied_same : (l : List ℕ) (v : ℕ) → Memᴰ v (tidied l) ↔ Memᴰ v l
tidied_same l v = ((λ m. (sort_same l v).0 ((repeats_same (sort l) v).0 m)), λ m. (repeats_same (sort l) v).1 ((sort_same l v).1 m))

pub tidied_length : (l : List ℕ) → length (tidied l) ≤ length l
tidied_length l = omega (arith, repeats_length (sort l), sort_length l)
