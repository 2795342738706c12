-- The search for a fault, in the terms of the code.
use Prim.Native.Nat.{ℕ, zero, suc, ◌+◌, ◌-◌, ◌≤◌, ◌<◌}
use mathlib.Core.Path.{◌≡◌, refl, sym, ap, ◌∙◌}
use mathlib.Core.Bool.{Bool, true, false, cond, not, ◌||◌}
use mathlib.Core.List.{List, [], ◌∷◌}
use native.Mathlib.Omega.{arith}
use native.Mathlib.Numerals.{add-one}
use borrow.Author.Tests.{leb-true, le-leb, lt-leb}
use lib.Dec.{leb}
use lib.ListN.{length, get_or, take, drop, length-drop, drop_of_length-le}
use lib.Seq.{drop-cons, take_all}
use Rattle.theory_laws.proofs.Booleans.{same_test}
use Rattle.unit_program.specs.declared.Instruction.{Instruction}
use Rattle.unit_program.specs.declared.Instruction.TheVariants as instruction
use Rattle.unit_program.specs.Programs.{decode}
use Rattle.unit_program.specs.Faults.{is_end, before_end, ends, faulty, within, sound_prefix}

leb_suc : (a b : ℕ) → leb (suc a) (suc b) ≡ leb a b
leb_suc a b =
    same_test (leb (suc a) (suc b)) (leb a b)
    (λ e. let l = leb-true (suc a) (suc b) e in le-leb a b (omega arith))
    (λ e. let l = leb-true a b e in le-leb (suc a) (suc b) (omega arith))

-- An end stands where the commands before the first one are not all.
pub ends_before : (n : ℕ) (ws : List ℕ) → leb (length ws) (before_end n ws) ≡ not (ends n ws)
unfolding before_end ends
ends_before n [] = refl
ends_before n (w ∷ ws) = at (is_end (decode n w)) (ends_before n ws)
  where
    at : (q : Bool) → leb (length ws) (before_end n ws) ≡ not (ends n ws) → leb (suc (length ws)) (cond q zero (suc (before_end n ws))) ≡ not (q || ends n ws)
    at true e = lt-leb (suc (length ws)) 0 (omega arith)
    at false e = leb_suc (length ws) (before_end n ws) ∙ e

-- A test of the command that was read.
pub told : (f : Instruction → Bool) {d i q : Instruction} → i ≡ d → i ≡ q → f q ≡ f d
told f e g = ap f (sym g ∙ e)

pub loop_faulty : (n : ℕ) (inside : Bool) (ws : List ℕ) {d i : Instruction} {e : ℕ} → i ≡ d → i ≡ instruction.Loop → e ≡ before_end n ws → (inside || leb (length ws) e) ≡ faulty inside (ends n ws) d
loop_faulty n inside ws f g h =
    ap (λ (j : ℕ). inside || leb (length ws) j) h ∙ ap (λ (q : Bool). inside || q) (ends_before n ws) ∙ told (faulty inside (ends n ws)) f g

-- No command, an end, and another command before others.
pub none_before : (n : ℕ) → before_end n [] ≡ 0
unfolding before_end
none_before n = refl

module _ (n w : ℕ) (ws : List ℕ) where
  pub end_first : true ≡ is_end (decode n w) → before_end n (w ∷ ws) ≡ 0
  unfolding before_end
  end_first e = rw (sym e)

  pub end_later : false ≡ is_end (decode n w) → before_end n (w ∷ ws) ≡ before_end n ws + 1
  unfolding before_end
  end_later e = rw (sym e, add-one (before_end n ws))

-- The first fault, for a loop that has come to place i.
module _ (n : ℕ) (inside : Bool) (ws : List ℕ) (i : ℕ) {r : Bool} where
  pub fault_stop : i < length ws → r ≡ faulty inside (ends n (drop (i + 1) ws)) (decode n (get_or ws i 0)) → r ≡ true → i + sound_prefix n inside (drop i ws) ≡ i
  unfolding sound_prefix
  fault_stop h e f =
      let t : faulty inside (ends n (drop (suc i) ws)) (decode n (get_or ws i 0)) ≡ true = rw (add-one i) at (sym e ∙ f) in
      rw (drop-cons ws i 0 h, t) (omega arith)

  pub fault_go : i < length ws → r ≡ faulty inside (ends n (drop (i + 1) ws)) (decode n (get_or ws i 0)) → r ≡ false → {q : Bool} → q ≡ within inside (decode n (get_or ws i 0))
      → i + sound_prefix n inside (drop i ws) ≡ (i + 1) + sound_prefix n q (drop (i + 1) ws)
  unfolding sound_prefix
  fault_go h e f g =
      let t : faulty inside (ends n (drop (suc i) ws)) (decode n (get_or ws i 0)) ≡ false = rw (add-one i) at (sym e ∙ f) in
      rw (g, drop-cons ws i 0 h, t, add-one i) (omega arith)

pub fault_end : (n : ℕ) (inside : Bool) (ws : List ℕ) (i : ℕ) → length ws ≤ i → i + sound_prefix n inside (drop i ws) ≡ i
unfolding sound_prefix
fault_end n inside ws i h = rw (drop_of_length-le ws h) (omega arith)

-- The rest of a list, lent from place j on.
pub rest_all : (ws : List ℕ) (j : ℕ) → take (length ws - j) (drop j ws) ≡ drop j ws
rest_all ws j = take_all (length ws - j) (drop j ws) (let e = length-drop j ws in omega arith)
