-- The place that is found decides.
use mathlib.Core.Path.{sym}
use Rattle.explain_line.proofs.Stored.{crossed_size, turned_size}
use mathlib.Core.List.{[]}
use Rattle.explain.proofs.cross_size.Goals as goal

pub returns-then-find_link-words : goal.returns-then-find_link-words
returns-then-find_link-words c =
    sym (crossed_size c.args.set c.args.words.now [] 0 c.args.u c.args.v c.find_link.ensures.value c.if-find_link-words.true)

pub returns : goal.returns
returns c =
    sym (turned_size c.args.set c.args.words.now [] 0 c.args.u c.args.v c.find_link.ensures.value c.if-find_link-words.false)
