-- The words of the block up to the one that the loop has come to do nothing.
use Prim.Native.Nat.{◌+◌}
use Rattle.scan_pass.specs.Idle.{Idle}
use Rattle.scan_pass.proofs.closed_words.Given as goal

abbrev pub invariant-loop-k : goal.invariant-loop-k
invariant-loop-k l = Idle l.pass.words.now l.marks l.from (l.from + l.k)
