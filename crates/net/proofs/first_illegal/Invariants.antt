use Prim.Native.Nat.{◌+◌}
use mathlib.Core.Path.{◌≡◌}
use lib.ListN.{drop}
use Rattle.net_word.specs.Legal.{legal_from}
use Rattle.net.specs.Passing.{passing}
use Rattle.net.proofs.first_illegal.Given as goal

abbrev pub invariant-loop-i : goal.invariant-loop-i
invariant-loop-i l = passing (legal_from l.top l.o l.n) l.words ≡ l.i + passing (legal_from l.top l.o l.n) (drop l.i l.words)
