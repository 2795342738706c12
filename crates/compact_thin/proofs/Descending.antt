-- The loop from the highest word down: what is left to test gives what the whole does.
use Prim.Native.Nat.{ℕ, suc, ◌-◌, ◌≤◌, ◌<◌}
use mathlib.Core.Path.{◌≡◌, refl, sym, ap, ◌∙◌}
use mathlib.Core.Bool.{Bool, true, false, cond}
use mathlib.Core.List.{List}
use native.Mathlib.Omega.{arith}
use lib.ListN.{length, get_or, take, drop}
use lib.Seq.{get_or-take}
use Rattle.theory.specs.Nets.{Net}
use Rattle.theory.specs.Compaction.{without, supports, thin}
use Rattle.compact_thin.proofs.Trying.{others_net}

-- ── one word more of the definition ──
module _ (o k i : ℕ) (l : List ℕ) where
  thin_goes : supports o k (without i l) (get_or l i 0) ≡ true → thin o k (suc i) l ≡ thin o k i (without i l)
  unfolding thin
  thin_goes e = rw e

  thin_stays : supports o k (without i l) (get_or l i 0) ≡ false → thin o k (suc i) l ≡ thin o k i l
  unfolding thin
  thin_stays e = rw e

thin_none : (o k : ℕ) (l : List ℕ) → thin o k 0 l ≡ l
unfolding thin
thin_none o k l = refl

module _ (o k n count : ℕ) (l₀ m₀ : List ℕ) where
  -- The first `end` words are present, and the first i of them are still to be tested.
  pub record Thins (l m : List ℕ) (end i : ℕ) : Type 0 where
    pub low : i ≤ end
    pub fewer : end ≤ count
    pub long : length l ≡ length l₀
    pub marks_long : length m ≡ length m₀
    pub marks_past : drop n m ≡ drop n m₀
    pub whole : thin o k i (take end l) ≡ thin o k count (take count l₀)
    pub net : Net o k (take end l)

  pub thins : Net o k (take count l₀) → Thins l₀ m₀ count count
  thins h = record { low = omega arith; fewer = omega arith; long = refl; marks_long = refl; marks_past = refl; whole = refl; net = h }

  module _ (part : count ≤ length l₀) {l m : List ℕ} {end i : ℕ} (t : Thins l m end i) where
    module _ (h : 0 < i) where
      abbrev P : List ℕ
      P = take end l

      below : i - 1 < end
      below = let a = t.low in omega arith

      at : get_or P (i - 1) 0 ≡ get_or l (i - 1) 0
      at = get_or-take end l (i - 1) 0 below

      next : suc (i - 1) ≡ i
      next = omega arith

      again : thin o k i P ≡ thin o k (suc (i - 1)) P
      again = ap (λ (j : ℕ). thin o k j P) (sym next)

      pub thins_goes : {l' m' : List ℕ} {r : Bool} → r ≡ supports o k (without (i - 1) P) (get_or l (i - 1) 0) → take (cond r (end - 1) end) l' ≡ cond r (without (i - 1) P) P
          → length l' ≡ length l → length m' ≡ length m → drop n m' ≡ drop n m → r ≡ true → Thins l' m' (end - 1) (i - 1)
      thins_goes {l' = l'} e left long m-long m-past y =
          let s : supports o k (without (i - 1) P) (get_or P (i - 1) 0) ≡ true = rw at (sym e ∙ y) in
          let p : take (end - 1) l' ≡ without (i - 1) P = rw y at left in
          let f : thin o k (suc (i - 1)) P ≡ thin o k (i - 1) (without (i - 1) P) = thin_goes o k (i - 1) P s in
          record {
            low = omega (arith, t.low);
            fewer = omega (arith, t.fewer);
            long = long ∙ t.long;
            marks_long = m-long ∙ t.marks_long;
            marks_past = m-past ∙ t.marks_past;
            whole = rw p (sym (again ∙ f) ∙ t.whole);
            net = rw p (others_net (i - 1) end l below (omega (arith, t.fewer, t.long)) o k t.net);
          }

      pub thins_stays : {l' m' : List ℕ} {r : Bool} → r ≡ supports o k (without (i - 1) P) (get_or l (i - 1) 0) → take (cond r (end - 1) end) l' ≡ cond r (without (i - 1) P) P
          → length l' ≡ length l → length m' ≡ length m → drop n m' ≡ drop n m → r ≡ false → Thins l' m' end (i - 1)
      thins_stays {l' = l'} e left long m-long m-past y =
          let s : supports o k (without (i - 1) P) (get_or P (i - 1) 0) ≡ false = rw at (sym e ∙ y) in
          let p : take end l' ≡ P = rw y at left in
          let f : thin o k (suc (i - 1)) P ≡ thin o k (i - 1) P = thin_stays o k (i - 1) P s in
          record {
            low = omega (arith, t.low);
            fewer = t.fewer;
            long = long ∙ t.long;
            marks_long = m-long ∙ t.marks_long;
            marks_past = m-past ∙ t.marks_past;
            whole = rw p (sym (again ∙ f) ∙ t.whole);
            net = rw p t.net;
          }

    pub thins_all : i ≤ 0 → take end l ≡ thin o k count (take count l₀)
    thins_all h =
        let z : i ≡ 0 = omega arith in
        sym (thin_none o k (take end l)) ∙ (rw z at t.whole)
