use mathlib.Core.Path.{sym, ◌∙◌}
use Rattle.theory.proofs.origins.Statements.{inside_from_at}
use Rattle.unit_gather.proofs.Gathering.{gather_go, gather_end}
use Rattle.unit_gather.proofs.gather_nodes.Goals as goal

pub gather_one-requires : goal.gather_one-requires
gather_one-requires c =
    record {
      markers = c.requires.markers;
      ends = inside_from_at c.args.words.now c.requires.inside c.loop-word.word-index c.loop-word-test.true;
      few = c.requires.few;
      room = c.requires.room;
      size = c.loop-word.invariant.long ∙ c.requires.size;
    }

pub loop-word-preserved : goal.loop-word-preserved
loop-word-preserved c = record {
  long = c.gather_one.auto.aside ∙ c.loop-word.invariant.long;
  left = c.loop-word.invariant.left ∙ gather_go c.args.set c.args.c c.args.marks.now c.args.words.now c.loop-word.word-index c.loop-word.aside c.loop-word-test.true c.gather_one.ensures;
}

pub returns : goal.returns
returns c =
    sym (c.loop-word.invariant.left ∙ gather_end c.args.set c.args.c c.args.marks.now c.args.words.now c.loop-word.word-index c.loop-word.aside c.loop-word-test.false)
