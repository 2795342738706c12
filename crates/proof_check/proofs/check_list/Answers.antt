use mathlib.Core.Path.{refl}
use native.Mathlib.Omega.{arith}
use borrow.Author.Rules.{rules}
use Rattle.theory.specs.Origins.{chosen}
use Rattle.proof_given.specs.Held.{held}
use Rattle.proof_check.proofs.Closing.{list_empty, list_long, list_none, list_short, list_walked}
use Rattle.proof_check.proofs.check_list.Goals as goal

pub returns-then-list-eq0 : goal.returns-then-list-eq0
returns-then-list-eq0 c =
    list_empty c.args.o c.args.n (chosen c.args.set c.args.words.now) c.args.goal c.args.list.now c.if-list-eq0.true

pub returns-then-list-gt-LIST_LIMIT : goal.returns-then-list-gt-LIST_LIMIT
returns-then-list-gt-LIST_LIMIT c =
    list_long c.args.o c.args.n (chosen c.args.set c.args.words.now) c.args.goal c.args.list.now (omega arith) c.if-list-gt-LIST_LIMIT.true

pub overflow_cast-branches : goal.overflow_cast-branches
overflow_cast-branches c = omega (arith, c.shared_slice_known-3-1.given 0)

pub returns-then-branches-eq0 : goal.returns-then-branches-eq0
returns-then-branches-eq0 c =
    list_none c.args.o c.args.n (chosen c.args.set c.args.words.now) c.args.goal c.args.list.now _ (omega arith) (omega arith) refl c.if-branches-eq0.true

pub overflow_mul-base : goal.overflow_mul-base
overflow_mul-base c = omega (arith, c.shared_slice_known-3-1.given 0)

pub overflow_add-base : goal.overflow_add-base
overflow_add-base c = omega (arith, c.shared_slice_known-3-1.given 0)

pub returns-then-list-base : goal.returns-then-list-base
returns-then-list-base c =
    list_short c.args.o c.args.n (chosen c.args.set c.args.words.now) c.args.goal c.args.list.now _ (omega arith) (omega arith) refl c.if-branches-eq0.false c.if-list-base.true

pub check_sequent-walked-requires : goal.check_sequent-walked-requires
check_sequent-walked-requires c =
    record {
      entered = c.requires.entered;
      room = (omega arith, omega arith, omega arith, omega arith, omega arith, search rules);
    }

pub returns : goal.returns
unfolding held
returns c =
    list_walked c.args.o c.args.n (chosen c.args.set c.args.words.now) c.args.goal c.args.list.now _ _ _ (omega arith) (omega arith) refl c.if-branches-eq0.false (omega arith) c.check_sequent-walked.ensures.0 c.close_walk.ensures
