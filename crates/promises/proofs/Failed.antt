-- Each of the three earlier versions breaks demand 2; the input at which it does stands in its proof.
use mathlib.Core.Path.{◌≡◌, refl, sym, ap, ◌∙◌}
use mathlib.Core.List.{[], ◌∷◌}
use native.Mathlib.Omega.{arith}
use lib.ListN.{get_or}
use Rattle.std.specs.Prelude.{Ok}
use Rattle.theory.specs.NetM.{M}
use Rattle.theory_laws.proofs.Booleans.{contradiction}
use Rattle.theory.specs.Words.{is, isnt}
use Rattle.theory.specs.Marks.{F, has, mark, link, links, command, round, blank}
use Rattle.theory.specs.Scans.{same, rounds}
use Rattle.theory.proofs.machine.Loss.{two_is_not_four, nought_is_not_four}
use Rattle.theory.specs.Origins.{chosen}
use Rattle.net.specs.Passing.{passing}
use Rattle.net.specs.Table.{check_net}
use Rattle.scan.specs.Table.{ScanOutcome}
use Rattle.question.specs.Table.{questioned}
use Rattle.clash.specs.Table.{first_both, first_clash}
use Rattle.question.specs.declared.Answer.TheVariants.{None, Yes}
use Rattle.promises.specs.Demand2.{Demand2}
use Rattle.promises.specs.Failed.{never_back, classical, never_up}
use Rattle.promises.proofs.Demand2.{demand_2}

-- Net M, question (0, 4): following arrows forward only, it answers none.
misses_no : (never_back.question 2 4 M 15 0 4 (blank 6)).answer ≡ Ok (None, 2)
unfolding chosen passing rounds same round command links link mark
misses_no = refl

-- But 0 ↛ 4 is supported.
pub never_back_fails : Demand2 never_back → ⊥
unfolding chosen
never_back_fails d = contradiction ((d.question 2 4 M 15 0 4 (blank 6) None 2 misses_no isnt).1 nought_is_not_four)

-- One object, two kinds, words 2 and 3: object 0 clashes at kind 1, and classically 0 → 2 follows.
follows_all : (classical.question 1 2 (2 ∷ 3 ∷ []) 15 0 2 (blank 3)).answer ≡ Ok (Yes, 2)
unfolding chosen passing rounds same round command links link mark first_both first_clash
follows_all = refl

-- Our engine says nothing about it.
says_none : (questioned 1 2 (2 ∷ 3 ∷ []) 15 0 2 (blank 3)).answer ≡ Ok (None, 2)
unfolding check_net chosen passing rounds same round command links link mark
says_none = refl

-- So 0 → 2 is not supported, and a yes is wrong.
pub classical_fails : Demand2 classical → ⊥
unfolding chosen
classical_fails d =
    contradiction ((demand_2.question 1 2 (2 ∷ 3 ∷ []) 15 0 2 (blank 3) None 2 says_none is).1 ((d.question 1 2 (2 ∷ 3 ∷ []) 15 0 2 (blank 3) Yes 2 follows_all is).0 refl))

-- Net M from kind 4: the backward search ends with no F.
loses_noes : never_up.scan 2 4 M 15 4 17 (blank 6) ≡ record { answer = Ok 3; marks = 0 ∷ 1 ∷ 0 ∷ 0 ∷ 1 ∷ 1 ∷ [] }
unfolding chosen passing rounds same round command links link mark
loses_noes = refl

-- But 2 ↛ 4 is supported.
pub never_up_fails : Demand2 never_up → ⊥
unfolding chosen
never_up_fails d =
    contradiction
    (sym (ap (λ (r : ScanOutcome). has F (get_or r.marks 2 0)) loses_noes)
    ∙ (d.scan_to 2 4 M 15 4 17 (blank 6) 3 (ap (λ (r : ScanOutcome). r.answer) loses_noes) (record { low = omega arith; high = omega arith }) 2 (omega arith) isnt).1 two_is_not_four)
