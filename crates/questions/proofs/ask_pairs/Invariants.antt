-- The loop's invariant: the bytes of the pairs so far stand in front, the pairs that are left give the marks that all of them give, and what is held is known.
use Prim.Native.Nat.{◌-◌}
use mathlib.Core.Path.{◌≡◌}
use Rattle.theory_laws.specs.Over.{over}
use Rattle.theory.specs.Origins.{chosen}
use Rattle.questions_pair.specs.Holding.{Known}
use Rattle.questions.specs.Pairs.{pairs_in}
use Rattle.questions.specs.Table.{answers_from, marks_from}
use Rattle.questions.proofs.ask_pairs.Given as goal

abbrev pub invariant-loop-i : goal.invariant-loop-i
invariant-loop-i l =
    (l.answers ≡ over (answers_from l.o l.n (chosen l.set l.words) l.pairs 0 l.i) l.initial.answers)
    × (marks_from l.o l.n (chosen l.set l.words) l.pairs 0 (pairs_in l.pairs) l.initial.marks ≡ marks_from l.o l.n (chosen l.set l.words) l.pairs l.i (pairs_in l.pairs - l.i) l.marks)
    × Known l.n (chosen l.set l.words) l.held l.marks
