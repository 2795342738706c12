use Rattle.compact_thin.proofs.Descending.{Thins}
use Rattle.compact_thin.proofs.thin_words.Given as goal

abbrev pub invariant-loop-i : goal.invariant-loop-i
invariant-loop-i l = Thins l.o l.k l.n l.count l.initial.words l.initial.marks l.words l.marks l.end l.i
