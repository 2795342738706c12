-- Passes and loops: what a pass takes from the budget, and that the computed loop is the one that the relation describes.
use Prim.Native.Nat.{ℕ, zero, suc, ◌-◌, ◌≤◌, ◌<◌}
use mathlib.Core.Path.{◌≡◌, refl, sym, ap, subst, ◌∙◌}
use mathlib.Core.Bool.{Bool, true, false, cond, ◌&&◌, ◌||◌}
use mathlib.Core.List.{List, [], ◌∷◌}
use native.Mathlib.Omega.{arith}
use lib.ListN.{length}
use Rattle.theory_laws.proofs.Booleans.{contradiction}
use Rattle.unit_program.specs.declared.Instruction.{Instruction}
use Rattle.unit_program.specs.Programs.{Item, one, loop}
use Rattle.unit_program.specs.Runs.{does, sets, Stand, stand, pass, Loops, last, again, passes, item, onward, run_items}

module _ (ws : List ℕ) where
  -- A pass whose budget lasts takes a command for each place.
  pub pass_left : (is : List Instruction) (left : ℕ) (f : Bool) (m : List ℕ) → length is ≤ left → ((pass ws is left f m).runs ≡ true) × ((pass ws is left f m).left ≡ left - length is)
  unfolding pass
  pass_left [] left f m h = (refl, omega arith)
  pass_left (i ∷ is) zero f m h = absurd (omega arith)
  pass_left (i ∷ is) (suc left) f m h =
      let t = pass_left is left (f || sets ws i m) (does ws i m) (omega arith) in
      (t.0, omega (arith, t.1))

  -- One whose budget does not last stops with nothing left.
  pub pass_spent : (is : List Instruction) (left : ℕ) (f : Bool) (m : List ℕ) → left < length is → ((pass ws is left f m).runs ≡ false) × ((pass ws is left f m).left ≡ 0)
  unfolding pass
  pass_spent [] left f m h = absurd (omega arith)
  pass_spent (i ∷ is) zero f m h = (refl, refl)
  pass_spent (i ∷ is) (suc left) f m h = pass_spent is left (f || sets ws i m) (does ws i m) (omega arith)

  -- With no budget it stops at its first command.
  pub pass_none : (is : List Instruction) (m : List ℕ) → 0 < length is → pass ws is 0 false m ≡ stand false 0 false m
  unfolding pass
  pass_none [] m h = absurd (omega arith)
  pass_none (i ∷ is) m h = refl

  pub pass_fewer : (is : List Instruction) (left : ℕ) (f : Bool) (m : List ℕ) → (pass ws is left f m).left ≤ left
  unfolding pass
  pass_fewer [] left f m = omega arith
  pass_fewer (i ∷ is) zero f m = omega arith
  pass_fewer (i ∷ is) (suc left) f m = omega (arith, pass_fewer is left (f || sets ws i m) (does ws i m))

  -- A pass that set something new ran a command.
  pub pass_fresh : (is : List Instruction) (left : ℕ) (m : List ℕ) → ((pass ws is left false m).runs && (pass ws is left false m).fresh) ≡ true → (pass ws is left false m).left < left
  unfolding pass
  pass_fresh [] left m h = contradiction h
  pass_fresh (i ∷ is) zero m h = contradiction h
  pass_fresh (i ∷ is) (suc left) m h = omega (arith, pass_fewer is left (false || sets ws i m) (does ws i m))

  abbrev going : Stand → Bool
  going s = s.runs && s.fresh

  module _ (is : List Instruction) where
    pub passes_last : (most left : ℕ) (m : List ℕ) → ((pass ws is left false m).runs && (pass ws is left false m).fresh) ≡ false → passes ws is (suc most) left m ≡ pass ws is left false m
    unfolding passes
    passes_last most left m h = rw (h, passes)

    pub passes_again : (most left : ℕ) (m : List ℕ) → ((pass ws is left false m).runs && (pass ws is left false m).fresh) ≡ true
        → passes ws is (suc most) left m ≡ passes ws is most (pass ws is left false m).left (pass ws is left false m).marks
    unfolding passes
    passes_again most left m h = rw (h, passes)

    -- The computed loop is one of the relation, whatever more passes it is given.
    pub passes_loops : (most left : ℕ) (m : List ℕ) → left < most → Loops ws is left m (passes ws is most left m)
    passes_loops zero left m h = absurd (omega arith)
    passes_loops (suc most) left m h = at ((pass ws is left false m).runs && (pass ws is left false m).fresh) refl (λ l. passes_loops most (pass ws is left false m).left (pass ws is left false m).marks l)
      where
        at : (q : Bool) → ((pass ws is left false m).runs && (pass ws is left false m).fresh) ≡ q
            → ((pass ws is left false m).left < most → Loops ws is (pass ws is left false m).left (pass ws is left false m).marks (passes ws is most (pass ws is left false m).left (pass ws is left false m).marks))
            → Loops ws is left m (passes ws is (suc most) left m)
        at true e go = rw (passes_again most left m e) (again refl e (go (omega (arith, pass_fresh is left m e))))
        at false e go = rw (passes_last most left m e) (last refl e)

    -- The relation has one outcome.
    pub loops_unique : {left : ℕ} {m : List ℕ} {s r : Stand} → Loops ws is left m s → Loops ws is left m r → s ≡ r
    loops_unique (last e h) (last f g) = e ∙ sym f
    loops_unique (last e h) (again f g k) = contradiction (sym h ∙ ap going (e ∙ sym f) ∙ g)
    loops_unique (again e h k) (last f g) = contradiction (sym g ∙ ap going (f ∙ sym e) ∙ h)
    loops_unique {r = r} (again {p = p} e h k) (again {p = q} f g l) = loops_unique k (subst (λ (z : Stand). Loops ws is z.left z.marks r) (f ∙ sym e) l)

    -- More passes than the budget has commands make no difference.
    pub passes_enough : (a b left : ℕ) (m : List ℕ) → left < a → left < b → passes ws is a left m ≡ passes ws is b left m
    passes_enough a b left m h l = loops_unique (passes_loops a left m h) (passes_loops b left m l)

    pub passes_fewer : (most left : ℕ) (m : List ℕ) → (passes ws is most left m).left ≤ left
    unfolding passes
    passes_fewer zero left m = omega arith
    passes_fewer (suc most) left m =
        at ((pass ws is left false m).runs && (pass ws is left false m).fresh) refl (passes_fewer most (pass ws is left false m).left (pass ws is left false m).marks)
      where
        at : (q : Bool) → ((pass ws is left false m).runs && (pass ws is left false m).fresh) ≡ q
            → (passes ws is most (pass ws is left false m).left (pass ws is left false m).marks).left ≤ (pass ws is left false m).left → (passes ws is (suc most) left m).left ≤ left
        at true e h = rw (passes_again most left m e) (let t = pass_fewer is left false m in omega arith)
        at false e h = rw (passes_last most left m e) (pass_fewer is left false m)

  item_fewer : (t : Item) (left : ℕ) (m : List ℕ) → (item ws t left m).left ≤ left
  item_fewer (one i) left m = pass_fewer (i ∷ []) left false m
  item_fewer (loop is) left m = passes_fewer is (suc left) left m

  -- A program takes nothing that its budget does not have.
  pub items_fewer : (ts : List Item) (left : ℕ) (m : List ℕ) → (run_items ws ts left m).left ≤ left
  unfolding run_items
  items_fewer [] left m = omega arith
  items_fewer (t ∷ ts) left m = at (item ws t left m) (item_fewer t left m) (λ l k. items_fewer ts l k)
    where
      at : (s : Stand) → s.left ≤ left → ((l : ℕ) (k : List ℕ) → (run_items ws ts l k).left ≤ l) → (onward s (λ l k. run_items ws ts l k)).left ≤ left
      at s h go = pick s.runs (go s.left s.marks)
        where
          pick : (q : Bool) → (run_items ws ts s.left s.marks).left ≤ s.left → (cond q (run_items ws ts s.left s.marks) s).left ≤ left
          pick true g = omega arith
          pick false g = h

  -- ── a run that stopped has nothing left ──
  pass_out : (is : List Instruction) (left : ℕ) (f : Bool) (m : List ℕ) → (pass ws is left f m).runs ≡ false → (pass ws is left f m).left ≡ 0
  unfolding pass
  pass_out [] left f m h = contradiction (sym h)
  pass_out (i ∷ is) zero f m h = refl
  pass_out (i ∷ is) (suc left) f m h = pass_out is left (f || sets ws i m) (does ws i m) h

  loops_out : (is : List Instruction) {left : ℕ} {m : List ℕ} {s : Stand} → Loops ws is left m s → s.runs ≡ false → s.left ≡ 0
  loops_out is {left} {m} (last e g) h = ap (λ (z : Stand). z.left) e ∙ pass_out is left false m (ap (λ (z : Stand). z.runs) (sym e) ∙ h)
  loops_out is (again e g k) h = loops_out is k h

  item_out : (t : Item) (left : ℕ) (m : List ℕ) → (item ws t left m).runs ≡ false → (item ws t left m).left ≡ 0
  item_out (one i) left m h = pass_out (i ∷ []) left false m h
  item_out (loop is) left m h = loops_out is (passes_loops is (suc left) left m (omega arith)) h

  -- A program that stopped before its end has spent its whole budget.
  pub items_out : (ts : List Item) (left : ℕ) (m : List ℕ) → (run_items ws ts left m).runs ≡ false → (run_items ws ts left m).left ≡ 0
  unfolding run_items
  items_out [] left m h = contradiction (sym h)
  items_out (t ∷ ts) left m h = pick (item ws t left m).runs refl (items_out ts (item ws t left m).left (item ws t left m).marks) h
    where
      s : Stand
      s = item ws t left m

      pick : (q : Bool) → (item ws t left m).runs ≡ q → ((run_items ws ts s.left s.marks).runs ≡ false → (run_items ws ts s.left s.marks).left ≡ 0)
          → (cond q (run_items ws ts s.left s.marks) s).runs ≡ false → (cond q (run_items ws ts s.left s.marks) s).left ≡ 0
      pick true e g f = g f
      pick false e g f = item_out t left m e
