use mathlib.Core.Path.{sym, ◌∙◌}
use Rattle.theory.specs.Origins.{chosen}
use Rattle.unit_run.proofs.Running.{pass_stop, pass_go, pass_end}
use Rattle.unit_run.proofs.run_pass.Goals as goal

pub returns-then-left-eq0 : goal.returns-then-left-eq0
returns-then-left-eq0 c =
    pass_stop c.args.n (chosen c.args.set c.args.words.now) c.args.program.now c.loop-word.word-index c.loop-word.left c.loop-word.fresh c.loop-word.marks c.loop-word-test.true c.if-left-eq0.true ∙ sym c.loop-word.invariant.ahead

pub obey-fresh-requires : goal.obey-fresh-requires
obey-fresh-requires c =
    record {
      inside = c.requires.inside;
      few = c.requires.few;
      size = c.loop-word.invariant.long ∙ c.requires.size;
    }

pub loop-word-preserved : goal.loop-word-preserved
loop-word-preserved c = record {
  long = c.obey-fresh.auto.marks ∙ c.loop-word.invariant.long;
  ahead = c.loop-word.invariant.ahead
      ∙ pass_go c.args.n (chosen c.args.set c.args.words.now) c.args.program.now c.loop-word.word-index c.loop-word.left c.loop-word.fresh c.loop-word.marks c.loop-word-test.true c.if-left-eq0.false
      c.obey-fresh.ensures.done c.obey-fresh.ensures.new;
}

pub returns : goal.returns
returns c =
    pass_end c.args.n (chosen c.args.set c.args.words.now) c.args.program.now c.loop-word.word-index c.loop-word.left c.loop-word.fresh c.loop-word.marks c.loop-word-test.false ∙ sym c.loop-word.invariant.ahead
