use Prim.Native.Nat.{◌*◌, ◌≤◌}
use mathlib.Core.Path.{◌≡◌}
use lib.ListN.{length}
use Rattle.theory.specs.Origins.{chosen}
use Rattle.questions_pair.specs.Holding.{Known}
use Rattle.text_field.specs.Writing.{Wrote}
use Rattle.ask_net.specs.Lines.{lines_of}
use Rattle.ask_net.proofs.put_lines.Given as goal

abbrev pub invariant-loop-i : goal.invariant-loop-i
invariant-loop-i l =
    (length l.marks ≡ 1024) × ((l.at ≤ l.i * 31) × (Wrote (lines_of l.o l.k l.words l.set l.i l.questions) l.initial.text l.text l.at × Known l.n (chosen l.set l.words) l.held l.marks))
