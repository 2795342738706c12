-- The loop has come to line n: those from there on decide.
use mathlib.Core.Path.{◌≡◌}
use lib.ListN.{drop}
use Rattle.derivation_lines.specs.Tests.{all_follow, checks}
use Rattle.derivation_lines.specs.Flat.{lines_of}
use Rattle.derivation_check.proofs.lines_hold.Given as goal

abbrev pub invariant-loop-n : goal.invariant-loop-n
invariant-loop-n l =
    checks l.o l.k l.set l.words (lines_of l.list) ≡ all_follow l.o l.k l.set l.words (lines_of l.list) l.n (drop l.n (lines_of l.list))
