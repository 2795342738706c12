-- The unit has no choice: from a state there is one step at most, and a run has one outcome.
use Prim.Native.Nat.{ℕ, suc, ◌-◌, ◌<◌}
use mathlib.Core.Path.{◌≡◌, sym, ap, subst, ◌∙◌}
use mathlib.Core.Bool.{true, false, ◌||◌}
use mathlib.Core.List.{List}
use native.Mathlib.Omega.{arith}
use native.Mathlib.Decide.{dec_lt}
use lib.ListN.{length, get_or-eq_default}
use Rattle.theory_laws.proofs.Booleans.{contradiction}
use Rattle.theory.specs.Scans.{Scan}
use Rattle.unit_program.specs.declared.Instruction.{Instruction}
use Rattle.unit_program.specs.declared.Instruction.TheVariants as instruction
use Rattle.unit_program.specs.Programs.{decode}
use Rattle.unit_program.specs.Faults.{is_end, is_loop}
use Rattle.unit_program.specs.Wrong.{command_at}
use Rattle.unit_program.specs.Runs.{does, sets}
use Rattle.unit_program.specs.Steps.{State, state, charged, Begins, Step, runs, enters, repeats, leaves, Leads, arrived, further, Runs, ended, spent}

module _ (n : ℕ) (ws ps : List ℕ) where
  -- A place stands in one loop at most.
  begins_unique : (a b i : ℕ) → Begins n ps a i → Begins n ps b i → a ≡ b
  begins_unique a b i p q = pick (dec_lt a b) (dec_lt b a)
    where
      never : (c d : ℕ) → Begins n ps c i → Begins n ps d i → c < d → ⊥
      never c d u v h = contradiction (sym (ap charged v.opens) ∙ u.between d h v.before)

      pick : Dec (a < b) → Dec (b < a) → a ≡ b
      pick (yes h) d = absurd (never a b p q h)
      pick (no h) (yes l) = absurd (never b a q p l)
      pick (no h) (no l) = omega arith

  -- What is charged is no mark of a loop, and a loop is no end.
  not_loop : {A : Type 0} {i : Instruction} → charged i ≡ true → i ≡ instruction.Loop → A
  not_loop c e = contradiction (sym (ap charged e) ∙ c)

  not_end : {A : Type 0} {i : Instruction} → charged i ≡ true → i ≡ instruction.End → A
  not_end c e = contradiction (sym (ap charged e) ∙ c)

  not_both : {A : Type 0} {i : Instruction} → i ≡ instruction.Loop → i ≡ instruction.End → A
  not_both e f = contradiction (ap is_end (sym e ∙ f))

  module _ (s : State) where
    abbrev here : Instruction
    here = command_at n ps s.place

    -- One step at most.
    pub step_unique : {t u : State} → Step n ws ps s t → Step n ws ps s u → t ≡ u
    step_unique (runs c l e f) (runs c' l' e' f') =
        let q : l ≡ l' = omega arith in
        f ∙ ap (λ (i : ℕ). state (suc s.place) i (s.fresh || sets ws here s.marks) (does ws here s.marks)) q ∙ sym f'
    step_unique (runs c l e f) (enters d g) = not_loop c d
    step_unique (runs c l e f) (repeats d g a b h) = not_end c d
    step_unique (runs c l e f) (leaves d g h) = not_end c d
    step_unique (enters d g) (runs c l e f) = not_loop c d
    step_unique (enters d g) (enters d' g') = g ∙ sym g'
    step_unique (enters d g) (repeats d' g' a b h) = not_both d d'
    step_unique (enters d g) (leaves d' g' h) = not_both d d'
    step_unique (repeats d g a b h) (runs c l e f) = not_end c d
    step_unique (repeats d g a b h) (enters d' g') = not_both d' d
    step_unique (repeats d g a b h) (repeats d' g' a' b' h') = h ∙ ap (λ (i : ℕ). state (suc i) s.left false s.marks) (begins_unique a a' s.place b b') ∙ sym h'
    step_unique (repeats d g a b h) (leaves d' g' h') = contradiction (sym g' ∙ g)
    step_unique (leaves d g h) (runs c l e f) = not_end c d
    step_unique (leaves d g h) (enters d' g') = not_both d' d
    step_unique (leaves d g h) (repeats d' g' a b h') = contradiction (sym g ∙ g')
    step_unique (leaves d g h) (leaves d' g' h') = h ∙ sym h'

    -- ── no step leads on from where a run ends ──
    abbrev pub Still : Type 0
    Still = (t : State) → Step n ws ps s t → ⊥

    past_end : s.place ≡ length ps → command_at n ps s.place ≡ instruction.Unknown
    unfolding decode
    past_end e = ap (decode n) (get_or-eq_default ps 0 (omega (arith, e)))

    end_still : s.place ≡ length ps → Still
    end_still e t (runs c l f g) = contradiction (sym (ap charged (past_end e)) ∙ c)
    end_still e t (enters d g) = contradiction (ap is_loop (sym (past_end e) ∙ d))
    end_still e t (repeats d g a b h) = contradiction (ap is_end (sym (past_end e) ∙ d))
    end_still e t (leaves d g h) = contradiction (ap is_end (sym (past_end e) ∙ d))

    spent_still : charged (command_at n ps s.place) ≡ true → s.left ≡ 0 → Still
    spent_still c z t (runs c' l f g) = omega arith
    spent_still c z t (enters d g) = not_loop c d
    spent_still c z t (repeats d g a b h) = not_end c d
    spent_still c z t (leaves d g h) = not_end c d

  -- Steps from one state come to one such state.
  still_unique : {s t u : State} → Leads n ws ps s t → Leads n ws ps s u → Still t → Still u → t ≡ u
  still_unique (arrived e) (arrived f) p q = sym e ∙ f
  still_unique (arrived e) (further v g l) p q = absurd (p v (subst (λ (z : State). Step n ws ps z v) e g))
  still_unique (further v g l) (arrived f) p q = absurd (q v (subst (λ (z : State). Step n ws ps z v) f g))
  still_unique {s} {u = u} (further v g l) (further v' g' l') p q = still_unique l (subst (λ (z : State). Leads n ws ps z u) (step_unique s g' g) l') p q

  -- A run has one outcome.
  pub runs_unique : {budget : ℕ} {m : List ℕ} {r q : Scan} → Runs n ws ps budget m r → Runs n ws ps budget m q → r ≡ q
  runs_unique {budget} (ended s l e f) (ended s' l' e' f') =
      f ∙ ap (λ (z : State). record { done = true; count = budget - z.left; marks = z.marks }) (still_unique l l' (end_still s e) (end_still s' e')) ∙ sym f'
  runs_unique (ended s l e f) (spent s' l' c z f') =
      let same = still_unique l l' (end_still s e) (spent_still s' c z) in
      contradiction (sym (ap charged (past_end s e)) ∙ ap (λ (t : State). charged (command_at n ps t.place)) same ∙ c)
  runs_unique (spent s l c z f) (ended s' l' e' f') =
      let same = still_unique l' l (end_still s' e') (spent_still s c z) in
      contradiction (sym (ap charged (past_end s' e')) ∙ ap (λ (t : State). charged (command_at n ps t.place)) same ∙ c)
  runs_unique {budget} (spent s l c z f) (spent s' l' c' z' f') =
      f ∙ ap (λ (t : State). record { done = false; count = budget; marks = t.marks }) (still_unique l l' (spent_still s c z) (spent_still s' c' z')) ∙ sym f'
