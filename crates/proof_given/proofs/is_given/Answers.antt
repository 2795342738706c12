use Rattle.theory.specs.Origins.{chosen}
use Rattle.proof_given.specs.Held.{held}
use Rattle.proof_given.proofs.Loops.{given_added, given_listed}
use Rattle.proof_given.proofs.is_given.Goals as goal

pub returns-then-is_added : goal.returns-then-is_added
returns-then-is_added c =
    given_added (chosen c.args.set c.args.words.now) (held c.args.added.now c.args.count) c.args.word _ c.is_added.ensures c.if-is_added.true

pub returns : goal.returns
returns c =
    given_listed (chosen c.args.set c.args.words.now) (held c.args.added.now c.args.count) c.args.word _ _ c.is_added.ensures c.if-is_added.false c.is_listed.ensures
