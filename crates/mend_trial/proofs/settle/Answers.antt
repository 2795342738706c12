use mathlib.Core.Path.{sym, ap, ◌∙◌}
use Rattle.theory.specs.Scans.{Scan}
use Rattle.mend_trial.proofs.Settling.{inside_from_plain, settled_plain}
use Rattle.mend_trial.proofs.settle.Goals as goal

pub run_rounds-requires : goal.run_rounds-requires
run_rounds-requires c =
    record { inside = inside_from_plain c.args.n c.args.words.now c.requires.few c.requires.inside; few = c.requires.few; room = c.requires.room; low = c.requires.low }

pub returns : goal.returns
returns c =
    sym (ap (λ (s : Scan). s.marks) c.run_rounds.ensures.marks_value) ∙ settled_plain c.args.n c.args.words.now c.requires.few c.requires.inside c.args.marks.now
