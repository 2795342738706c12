-- None of the words of the blocks that the loop has passed says "is not".
use Prim.Native.Nat.{◌*◌}
use Rattle.scan_block.specs.Signs.{NoIsnt}
use Rattle.scan_block.proofs.blocks_have_isnt.Given as goal

abbrev pub invariant-loop-block : goal.invariant-loop-block
invariant-loop-block l = NoIsnt (l.block * 8) l.words
