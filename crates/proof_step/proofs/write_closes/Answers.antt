use mathlib.Core.Path.{refl, ◌∙◌}
use native.Mathlib.Omega.{arith}
use Rattle.theory.specs.Origins.{chosen}
use Rattle.proof_step.proofs.Closes.{closes_start, closes_more, closes_end}
use Rattle.proof_step.proofs.write_closes.Goals as goal

pub loop-i-init : goal.loop-i-init
loop-i-init c =
    record { long = refl; written = closes_start (chosen c.args.set c.args.words.now) c.args.path.now c.args.first c.args.links c.args.node c.args.list.now }

pub loop-i-preserved : goal.loop-i-preserved
loop-i-preserved c = record {
  long = c.put_step.auto.list ∙ c.loop-i.invariant.long;
  written = c.put_step.ensures ∙ closes_more (chosen c.args.set c.args.words.now) c.args.path.now c.args.first c.args.links c.args.node c.args.list.now c.loop-i.i c.loop-i.list _ _ (omega arith) (omega arith) c.loop-i.invariant.written c.link_at-link.ensures c.close_word-word.ensures;
}

pub returns : goal.returns
returns c =
    closes_end (chosen c.args.set c.args.words.now) c.args.path.now c.args.first c.args.links c.args.node c.args.list.now c.loop-i.i c.loop-i.list (omega arith) (omega arith) c.loop-i.invariant.written
