use Rattle.std.proofs.Common.{Bool, ◌≡◌, ℕ, ◌+◌, ◌<◌, ◌∷◌, length, arith, refl, ap, ◌∙◌}
use Rattle.proof_form.specs.Checker.{sequent}
use Rattle.theory.specs.Origins.{chosen}
use Rattle.proof_given.specs.Held.{held}
use Rattle.proof_branch.proofs.Adding.{held_more, held_kept}
use Rattle.proof_branch.proofs.Bounds.{came}
use Rattle.proof_branch.proofs.Walks.{sequent_cut, sequent_spent, sequent_more, premises_broken, premises_nothing, premises_one, premises_stopped, premises_two}
use Rattle.proof_form.specs.declared.Walked.{Walked}
use Rattle.proof_form.specs.declared.Walked.TheVariants.{Upto, Fault, Cut}
use Rattle.std.proofs.Math.ListN.{length-set}
use mathlib.Core.Logic.{◌⊎◌, inl, inr}
use Rattle.proof_branch.proofs.+check_premises_check_sequent.Goals as goal

-- A number for each way in which a walk comes to its end.
tag : Walked → ℕ
tag (Upto k m u) = 0
tag (Fault k) = 1
tag Cut = 2

-- What is not walked to its end is at fault or cut.
stopped : (r : Walked) → ((k m : ℕ) (u : Bool) → r ≡ Upto k m u → ⊥) → (tag r ≡ 1) ⊎ (tag r ≡ 2)
unfolding tag
stopped (Upto k m u) h = absurd (h k m u refl)
stopped (Fault k) h = inl refl
stopped Cut h = inr refl

pub check_premises-returns-in_default : goal.check_premises-returns-in_default
unfolding tag
check_premises-returns-in_default t c =
    let a = c.args in
    let one = c.check_sequent-first in
    (premises_stopped a.list.now a.base (sequent a.o a.n (chosen a.set a.words.now) a.list.now a.base a.depth) (held a.added.now a.count) a.goal a.step a.branch a.fitted a.asks tag (λ k m u. refl) one.result _ _ c.in-Two.is one.ensures.0 (stopped one.result c.in_default.not-Upto), one.ensures.1, one.ensures.2)

pub check_premises-branch_fits-requires : goal.check_premises-branch_fits-requires
check_premises-branch_fits-requires t c =
    let a = c.args in
    let k = came a.o a.n (chosen a.set a.words.now) a.list.now a.base a.depth (held a.added.now a.count) _ (a.step + 1) (a.branch + 1) a.fitted _ _ _ _ (omega arith) c.check_sequent-first.ensures.0 c.in-Upto.is in
    omega (arith, k.0)

pub check_premises-check_sequent-requires-in-Two : goal.check_premises-check_sequent-requires-in-Two
check_premises-check_sequent-requires-in-Two t c =
    let a = c.args in
    let k = came a.o a.n (chosen a.set a.words.now) a.list.now a.base a.depth (held a.added.now a.count) _ (a.step + 1) (a.branch + 1) a.fitted _ _ _ _ (omega arith) c.check_sequent-first.ensures.0 c.in-Upto.is in
    (omega arith, (c.requires.entered, (omega arith, omega arith, omega arith, omega arith, omega (arith, k.1), length-set c.check_sequent-first.new.added a.count _ ∙ c.check_sequent-first.ensures.2)))

pub check_premises-returns-in-Broken : goal.check_premises-returns-in-Broken
check_premises-returns-in-Broken t c =
    let a = c.args in
    (premises_broken a.list.now a.base (sequent a.o a.n (chosen a.set a.words.now) a.list.now a.base a.depth) (held a.added.now a.count) a.goal a.step a.branch a.fitted a.asks c.in-Broken.is, refl, omega arith)

pub check_premises-returns-in-Nothing : goal.check_premises-returns-in-Nothing
check_premises-returns-in-Nothing t c =
    let a = c.args in
    (premises_nothing a.list.now a.base (sequent a.o a.n (chosen a.set a.words.now) a.list.now a.base a.depth) (held a.added.now a.count) a.goal a.step a.branch a.fitted a.asks c.in-Nothing.is, refl, omega arith)

pub check_premises-returns-in-One : goal.check_premises-returns-in-One
check_premises-returns-in-One t c =
    let a = c.args in
    let h : a.count < length a.added.now = omega arith in
    (premises_one a.list.now a.base (sequent a.o a.n (chosen a.set a.words.now) a.list.now a.base a.depth) (held a.added.now a.count) a.goal a.step a.branch a.fitted a.asks _ _ _ _ c.in-One.is (held_more a.added.now a.count _ h) c.check_sequent.ensures.0, held_kept a.added.now _ a.count _ h c.check_sequent.ensures.1, c.check_sequent.ensures.2)

pub check_premises-returns-in-Upto : goal.check_premises-returns-in-Upto
check_premises-returns-in-Upto t c =
    let a = c.args in
    let one = c.check_sequent-first in
    let b = one.new.added in
    let h : a.count < length b = omega (arith, one.ensures.2) in
    let w = c.in-Two.word in
    let kept = one.ensures.1 in (
      premises_two a.list.now a.base (sequent a.o a.n (chosen a.set a.words.now) a.list.now a.base a.depth) (held a.added.now a.count) a.goal a.step a.branch a.fitted a.asks _ _ _ _ _ _ _ _ _ c.in-Two.is one.ensures.0 c.in-Upto.is c.branch_fits.ensures
          (held_more b a.count w h ∙ ap (λ z. w ∷ z) kept) c.check_sequent-in-Two.ensures.0,
      held_kept b _ a.count _ h c.check_sequent-in-Two.ensures.1 ∙ kept,
      c.check_sequent-in-Two.ensures.2,
    )

pub check_sequent-returns-then-list-base : goal.check_sequent-returns-then-list-base
check_sequent-returns-then-list-base t c =
    let a = c.args in
    (sequent_cut a.o a.n (chosen a.set a.words.now) a.list.now a.base a.depth (held a.added.now a.count) a.goal a.step a.branch a.fitted c.if-list-base.true, refl, omega arith)

pub check_sequent-returns-then-depth-eq0 : goal.check_sequent-returns-then-depth-eq0
check_sequent-returns-then-depth-eq0 t c =
    let a = c.args in
    (sequent_spent a.o a.n (chosen a.set a.words.now) a.list.now a.base a.depth (held a.added.now a.count) a.goal a.step a.branch a.fitted (omega arith) c.if-depth-eq0.true, refl, omega arith)

pub check_sequent-returns : goal.check_sequent-returns
check_sequent-returns t c =
    let a = c.args in
    (sequent_more a.o a.n (chosen a.set a.words.now) a.list.now a.base a.depth (held a.added.now a.count) a.goal a.step a.branch a.fitted _ _ (omega arith) c.if-depth-eq0.false c.ask-asks.ensures c.check_premises.ensures.0, c.check_premises.ensures.1, c.check_premises.ensures.2)
