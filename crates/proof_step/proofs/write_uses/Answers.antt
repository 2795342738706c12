use mathlib.Core.Path.{refl, ◌∙◌}
use native.Mathlib.Omega.{arith}
use Rattle.theory.specs.Origins.{chosen}
use Rattle.proof_step.proofs.Uses.{used_range, uses_start, uses_more, uses_end}
use Rattle.proof_step.proofs.write_uses.Goals as goal

pub loop-i-init : goal.loop-i-init
loop-i-init c =
    record { long = refl; written = uses_start (chosen c.args.set c.args.words.now) c.args.path.now c.args.first c.args.links c.args.node c.args.list.now }

pub used_word-word-requires : goal.used_word-word-requires
used_word-word-requires c = used_range _ c.link_at-link.result c.link_at-link.ensures

pub loop-i-preserved : goal.loop-i-preserved
loop-i-preserved c = record {
  long = c.put_step.auto.list ∙ c.loop-i.invariant.long;
  written = c.put_step.ensures ∙ uses_more (chosen c.args.set c.args.words.now) c.args.path.now c.args.first c.args.links c.args.node c.args.list.now c.loop-i.i c.loop-i.list _ _ (omega arith) (omega arith) c.loop-i.invariant.written c.link_at-link.ensures c.used_word-word.ensures;
}

pub returns : goal.returns
returns c =
    uses_end (chosen c.args.set c.args.words.now) c.args.path.now c.args.first c.args.links c.args.node c.args.list.now c.loop-i.i c.loop-i.list (omega arith) (omega arith) c.loop-i.invariant.written
