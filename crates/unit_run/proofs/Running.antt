-- Passes and loops, in the terms of the code.
use Prim.Native.Nat.{ℕ, suc, ◌+◌, ◌-◌, ◌≤◌, ◌<◌}
use mathlib.Core.Path.{◌≡◌, sym, ap, ◌∙◌}
use mathlib.Core.Bool.{Bool, true, false, ◌&&◌, ◌||◌}
use mathlib.Core.List.{List, ◌∷◌, map}
use native.Mathlib.Omega.{arith}
use native.Mathlib.Numerals.{add-one}
use lib.ListN.{length, get_or, drop, drop_of_length-le}
use lib.Seq.{drop-cons}
use Rattle.unit_program.specs.declared.Instruction.{Instruction}
use Rattle.unit_program.specs.Programs.{decode}
use Rattle.unit_program.specs.Runs.{does, sets, Stand, stand, pass, passes}
use Rattle.unit_program.proofs.Looping.{pass_fresh, passes_last, passes_again, passes_enough}

-- ── a pass that has come to place i ──
module _ (n : ℕ) (ws ps : List ℕ) (i left : ℕ) (fresh : Bool) (m : List ℕ) where
  pub pass_stop : i < length ps → left ≡ 0 → stand false 0 fresh m ≡ pass ws (map (decode n) (drop i ps)) left fresh m
  unfolding pass
  pass_stop h e = rw (drop-cons ps i 0 h, e)

  pub pass_go : i < length ps → (left ≡ 0 → ⊥) → {r : Bool} {m' : List ℕ} → m' ≡ does ws (decode n (get_or ps i 0)) m → r ≡ sets ws (decode n (get_or ps i 0)) m
      → pass ws (map (decode n) (drop i ps)) left fresh m ≡ pass ws (map (decode n) (drop (i + 1) ps)) (left - 1) (fresh || r) m'
  unfolding pass
  pass_go h e f g =
      let l : left ≡ suc (left - 1) = omega arith in
      rw (drop-cons ps i 0 h, add-one i, f, g) (ap (λ (j : ℕ). pass ws (decode n (get_or ps i 0) ∷ map (decode n) (drop (suc i) ps)) j fresh m) l)

  pub pass_end : length ps ≤ i → stand true left fresh m ≡ pass ws (map (decode n) (drop i ps)) left fresh m
  unfolding pass
  pass_end h = rw (drop_of_length-le ps h)

-- ── a loop before a pass, whose result is s ──
module _ (ws : List ℕ) (is : List Instruction) (left : ℕ) (m : List ℕ) {r f : Bool} {l : ℕ} {m' : List ℕ} (e : stand r l f m' ≡ pass ws is left false m) where
  pub loop_spent : r ≡ false → stand r l f m' ≡ passes ws is (suc left) left m
  loop_spent h = e ∙ sym (passes_last ws is left left m (ap (λ (s : Stand). s.runs && s.fresh) (sym e) ∙ ap (λ (q : Bool). q && f) h))

  pub loop_last : r ≡ true → f ≡ false → stand r l f m' ≡ passes ws is (suc left) left m
  loop_last h g = e ∙ sym (passes_last ws is left left m (ap (λ (s : Stand). s.runs && s.fresh) (sym e) ∙ rw (h, g)))

  module _ (h : r ≡ true) (g : f ≡ true) where
    going : ((pass ws is left false m).runs && (pass ws is left false m).fresh) ≡ true
    going = ap (λ (s : Stand). s.runs && s.fresh) (sym e) ∙ rw (h, g)

    pub loop_fewer : l < left
    loop_fewer = let t = pass_fresh ws is left m going in let q = ap (λ (s : Stand). s.left) e in omega arith

    pub loop_go : passes ws is (suc left) left m ≡ passes ws is (suc l) l m'
    loop_go =
        passes_again ws is left left m going
        ∙ ap (λ (s : Stand). passes ws is left s.left s.marks) (sym e)
        ∙ passes_enough ws is left (suc l) l m' loop_fewer (omega arith)
