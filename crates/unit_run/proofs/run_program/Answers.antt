use mathlib.Core.Path.{◌≡◌, sym, ◌∙◌}
use lib.ListN.{length}
use Rattle.std.proofs.Common.{rules, tests}
use Rattle.theory.specs.Origins.{chosen}
use Rattle.unit_run.proofs.Items.{program_end}
use Rattle.unit_run.proofs.run_program.Goals as goal

pub returns : goal.returns
returns c =
    let e : length c.loop-rest.rest.now ≡ 0 = search (rules, tests) in
    program_end c.args.n (chosen c.args.set c.args.words.now) c.loop-rest.rest.now c.loop-rest.left c.loop-rest.marks e ∙ sym c.loop-rest.invariant.ahead
