use mathlib.Core.Path.{sym, ◌∙◌}
use native.Mathlib.Omega.{arith}
use lib.ListN.{get_or}
use Rattle.theory.proofs.Inside.{at_member}
use Rattle.proof_given.proofs.Loops.{listed_here, listed_other, listed_passed, listed_end}
use Rattle.proof_given.proofs.is_listed.Goals.{else-is_chosen-via-then-is_chosen+else-plain_of-word, else-is_chosen-via-else-is_chosen}
use Rattle.proof_given.proofs.is_listed.Goals as goal

pub is_chosen-requires : goal.is_chosen-requires
is_chosen-requires c =
    c.requires (get_or c.args.words.now c.loop-link.link-index 0) (at_member c.args.words.now c.loop-link.link-index (omega arith))

pub returns-then-plain_of-word : goal.returns-then-plain_of-word
returns-then-plain_of-word c =
    sym (c.loop-link.invariant ∙ listed_here c.args.set c.args.word c.args.words.now c.loop-link.link-index (omega arith) c.is_chosen.ensures c.if-is_chosen.true c.plain_of.ensures c.if-plain_of-word.true)

pub loop-link-preserved : goal.loop-link-preserved
loop-link-preserved c =
    c.loop-link.invariant ∙ elim c.else-is_chosen.branch [
      | else-is_chosen-via-then-is_chosen+else-plain_of-word w ↦ listed_other c.args.set c.args.word c.args.words.now c.loop-link.link-index (omega arith) c.is_chosen.ensures w.if-is_chosen.true w.plain_of.ensures w.if-plain_of-word.false
      | else-is_chosen-via-else-is_chosen w ↦ listed_passed c.args.set c.args.word c.args.words.now c.loop-link.link-index (omega arith) c.is_chosen.ensures w.if-is_chosen.false
    ]

pub returns : goal.returns
returns c =
    sym (c.loop-link.invariant ∙ listed_end c.args.set c.args.word c.args.words.now c.loop-link.link-index (omega arith))
