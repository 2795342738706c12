use mathlib.Core.Path.{sym, ap, ◌∙◌}
use native.Mathlib.Omega.{arith}
use Rattle.theory.specs.Origins.{chosen}
use Rattle.theory.proofs.origins.Statements.{chosen_net}
use Rattle.proof_check.proofs.Closing.{judged_found, stated, statement_found, fault_fits}
use Rattle.proof_check.proofs.check_statement.Goals as goal

pub returns-then-is_bad_statement : goal.returns-then-is_bad_statement
returns-then-is_bad_statement c = simp (sym c.is_bad_statement.ensures ∙ c.if-is_bad_statement.true)

pub word_of-goal-requires : goal.word_of-goal-requires
word_of-goal-requires c =
    let p = stated c.args.o c.args.k c.args.n (chosen c.args.set c.args.words.now) c.args.x c.args.y c.args.sign c.args.list.now c.requires.0 (chosen_net c.args.set c.args.o c.args.k c.args.words.now c.requires.1) (sym c.is_bad_statement.ensures ∙ c.if-is_bad_statement.false) in
    (omega (arith, p.0, c.requires.1.few, c.requires.0), omega (arith, p.1, c.requires.1.few, c.requires.0), omega (arith, p.2))

pub check_list-found-requires : goal.check_list-found-requires
check_list-found-requires c =
    record {
      entered = (λ w m. (c.requires.1.legal w m).origin);
      small = (omega (arith, c.requires.0), omega (arith, c.requires.1.few, c.requires.0));
    }

pub overflow_cast-result : goal.overflow_cast-result
overflow_cast-result c =
    let h = fault_fits c.args.o c.args.k c.args.n (chosen c.args.set c.args.words.now) c.args.x c.args.y c.args.sign c.args.list.now c.requires.0 (chosen_net c.args.set c.args.o c.args.k c.args.words.now c.requires.1) (sym c.is_bad_statement.ensures ∙ c.if-is_bad_statement.false) _ c.word_of-goal.ensures _ c.check_list-found.ensures _ c.in-At.is in
    omega (arith, h)

pub returns-in-Right : goal.returns-in-Right
returns-in-Right c =
    statement_found c.args.o c.args.k c.args.n (chosen c.args.set c.args.words.now) c.args.x c.args.y c.args.sign c.args.list.now c.requires.0 (chosen_net c.args.set c.args.o c.args.k c.args.words.now c.requires.1) (sym c.is_bad_statement.ensures ∙ c.if-is_bad_statement.false) _ c.word_of-goal.ensures _ c.check_list-found.ensures (ap judged_found (sym c.in-Right.is))

pub returns-in-At : goal.returns-in-At
returns-in-At c =
    statement_found c.args.o c.args.k c.args.n (chosen c.args.set c.args.words.now) c.args.x c.args.y c.args.sign c.args.list.now c.requires.0 (chosen_net c.args.set c.args.o c.args.k c.args.words.now c.requires.1) (sym c.is_bad_statement.ensures ∙ c.if-is_bad_statement.false) _ c.word_of-goal.ensures _ c.check_list-found.ensures (ap judged_found (sym c.in-At.is))

pub returns-in-Nowhere : goal.returns-in-Nowhere
returns-in-Nowhere c =
    statement_found c.args.o c.args.k c.args.n (chosen c.args.set c.args.words.now) c.args.x c.args.y c.args.sign c.args.list.now c.requires.0 (chosen_net c.args.set c.args.o c.args.k c.args.words.now c.requires.1) (sym c.is_bad_statement.ensures ∙ c.if-is_bad_statement.false) _ c.word_of-goal.ensures _ c.check_list-found.ensures (ap judged_found (sym c.in-Nowhere.is))
