-- The computed compaction is the one that the relation describes, and there is no other.
use Prim.Native.Nat.{ℕ, zero, suc, ◌+◌, ◌≤◌, ◌<◌}
use mathlib.Core.Path.{◌≡◌, refl, subst, sym, ◌∙◌}
use mathlib.Core.Bool.{Bool, true, false, cond}
use mathlib.Core.List.{List}
use mathlib.Core.Logic.{inl, inr, ◌↔◌}
use native.Mathlib.Omega.{arith}
use lib.ListN.{length, get_or}
use Rattle.theory_laws.proofs.Booleans.{contradiction}
use Rattle.theory.specs.Words.{tail_of, head_of, sign_of}
use Rattle.theory.specs.Nets.{LegalWord, LegalWords}
use Rattle.theory.specs.Scans.{full_budget}
use Rattle.theory.specs.Sorting.{tidied}
use Rattle.theory.specs.Compaction.{without, Supports, Thinned, Compacted, supports, thin, compacted}
use Rattle.theory.proofs.Inside.{at_member}
use Rattle.theory.proofs.machine.Bounds.{full_done}
use Rattle.theory.proofs.machine.Sides.{scan_exact}
use Rattle.theory.proofs.completion.Ascending.{ascending_same}
use Rattle.theory.proofs.compaction.Repeats.{tidied_ascending, tidied_same}
use Rattle.theory.proofs.compaction.Places.{without_long, without_among}

module _ (o k : ℕ) where
  -- The test says what is supported.
  pub supports_exact : (ws : List ℕ) (w : ℕ) → LegalWords o k ws → LegalWord o k w → (supports o k ws w ≡ true) ↔ Supports o k ws w
  supports_exact ws w l h =
      scan_exact o k ws l (tail_of w) h.tail (full_budget (o + k)) (full_done o k ws l (tail_of w) h.tail (full_budget (o + k)) (omega arith)) (head_of w) h.head (sign_of w)

  legal_without : (i : ℕ) (l : List ℕ) → i < length l → LegalWords o k l → LegalWords o k (without i l)
  legal_without i l h e w m = e w (without_among i l h w m)

  pub thin_thinned : (i : ℕ) (l : List ℕ) → i ≤ length l → LegalWords o k l → Thinned o k i l (thin o k i l)
  unfolding thin
  thin_thinned zero l h e = refl
  thin_thinned (suc i) l h e =
      at (supports o k (without i l) (get_or l i 0)) refl
      (thin_thinned i (without i l) (omega (arith, without_long i l h)) (legal_without i l h e)) (thin_thinned i l (omega arith) e)
    where
      exact : (supports o k (without i l) (get_or l i 0) ≡ true) ↔ Supports o k (without i l) (get_or l i 0)
      exact = supports_exact (without i l) (get_or l i 0) (legal_without i l h e) (e (get_or l i 0) (at_member l i h))

      at : (q : Bool) → supports o k (without i l) (get_or l i 0) ≡ q → Thinned o k i (without i l) (thin o k i (without i l)) → Thinned o k i l (thin o k i l)
          → Thinned o k (suc i) l (cond q (thin o k i (without i l)) (thin o k i l))
      at true t f g = inl (exact.0 t, f)
      at false t f g = inr ((λ s. contradiction (sym t ∙ exact.1 s)), g)

  -- The relation has one outcome.
  thinned_unique : (i : ℕ) (l out out' : List ℕ) → Thinned o k i l out → Thinned o k i l out' → out ≡ out'
  thinned_unique zero l out out' a b = a ∙ sym b
  thinned_unique (suc i) l out out' (inl a) (inl b) = thinned_unique i (without i l) out out' a.1 b.1
  thinned_unique (suc i) l out out' (inl a) (inr b) = absurd (b.0 a.0)
  thinned_unique (suc i) l out out' (inr a) (inl b) = absurd (a.0 b.0)
  thinned_unique (suc i) l out out' (inr a) (inr b) = thinned_unique i l out out' a.1 b.1

  pub compacted_unique : (ws out out' : List ℕ) → Compacted o k ws out → Compacted o k ws out' → out ≡ out'
  compacted_unique ws out out' a b =
      let e : a.list ≡ b.list = ascending_same 0 a.list b.list a.ascending b.ascending (λ w m. (b.same w).1 ((a.same w).0 m)) (λ w m. (a.same w).1 ((b.same w).0 m)) in
      thinned_unique (length b.list) b.list out out' (subst (λ (l : List ℕ). Thinned o k (length l) l out) e a.thinned) b.thinned

  pub tidied_legal : (ws : List ℕ) → LegalWords o k ws → LegalWords o k (tidied ws)
  tidied_legal ws e w m = e w ((tidied_same ws w).0 m)

  -- The computed list is the compacted one.
  pub compacted_compacted : (ws : List ℕ) → LegalWords o k ws → Compacted o k ws (compacted o k ws)
  compacted_compacted ws e = record {
    list = tidied ws;
    ascending = tidied_ascending ws;
    same = tidied_same ws;
    thinned = thin_thinned (length (tidied ws)) (tidied ws) (omega arith) (tidied_legal ws e);
  }
