use Rattle.mend_loop.proofs.Going.{Going}
use Rattle.mend_loop.proofs.mend_all.Given as goal

abbrev pub invariant-loop-word : goal.invariant-loop-word
invariant-loop-word l = Going l.o l.k l.n l.words l.initial.kept l.initial.dropped l.initial.marks l.kept l.dropped l.marks l.count l.lost l.word-index
