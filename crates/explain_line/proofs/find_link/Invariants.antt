-- The loop has come to word i: the place among all words is i and that among the rest.
use Prim.Native.Nat.{◌+◌}
use mathlib.Core.Path.{◌≡◌}
use lib.ListN.{drop}
use Rattle.derivation_lines.specs.Deriving.{place_of}
use Rattle.explain_line.proofs.find_link.Given as goal

abbrev pub invariant-loop-i : goal.invariant-loop-i
invariant-loop-i l = place_of l.set l.x l.y l.sign l.words ≡ l.i + place_of l.set l.x l.y l.sign (drop l.i l.words)
