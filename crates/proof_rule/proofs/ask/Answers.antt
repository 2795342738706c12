use native.Mathlib.Omega.{arith}
use mathlib.Core.Path.{sym, ◌∙◌}
use Rattle.theory.specs.Origins.{chosen}
use Rattle.proof_given.specs.Held.{held}
use Rattle.proof_rule.proofs.Outcomes.{axiom_asks, axiom_broken, right_asks, right_broken, left_asks, left_broken, left_rule, left_node}
use Rattle.proof_rule.proofs.ask.Goals as goal

pub returns-then-is_axiom : goal.returns-then-is_axiom
returns-then-is_axiom c =
    axiom_asks c.args.o c.args.n (chosen c.args.set c.args.words.now) (held c.args.added.now c.args.count) c.args.goal c.args.rule c.args.node c.args.link _ (omega arith) c.is_axiom.ensures c.if-is_axiom.true

pub returns-then-rule-lt2 : goal.returns-then-rule-lt2
returns-then-rule-lt2 c =
    axiom_broken c.args.o c.args.n (chosen c.args.set c.args.words.now) (held c.args.added.now c.args.count) c.args.goal c.args.rule c.args.node c.args.link _ (omega arith) c.is_axiom.ensures c.if-is_axiom.false

pub word_of-requires : goal.word_of-requires
word_of-requires c =
    (omega arith, omega arith, omega arith)

pub returns-then-is_right : goal.returns-then-is_right
returns-then-is_right c =
    right_asks c.args.o c.args.n (chosen c.args.set c.args.words.now) (held c.args.added.now c.args.count) c.args.goal c.args.rule c.args.node c.args.link _ _ _ 0 _ _ (omega arith) (omega arith) c.is_right.ensures c.if-is_right.true
    c.tail_of.ensures c.word_of.ensures c.head_of.ensures c.word_of-then-is_right.ensures

pub returns-then-rule-lt4 : goal.returns-then-rule-lt4
returns-then-rule-lt4 c =
    right_broken c.args.o c.args.n (chosen c.args.set c.args.words.now) (held c.args.added.now c.args.count) c.args.goal c.args.rule c.args.node c.args.link _ (omega arith) (omega arith) c.is_right.ensures c.if-is_right.false

pub ask_left-requires : goal.ask_left-requires
ask_left-requires c =
    let e = sym c.is_left.ensures ∙ c.if-is_left.true in
    (omega arith, left_rule c.args.o c.args.n (chosen c.args.set c.args.words.now) (held c.args.added.now c.args.count) c.args.goal c.args.rule c.args.node c.args.link e, omega (arith, left_node c.args.o c.args.n (chosen c.args.set c.args.words.now) (held c.args.added.now c.args.count) c.args.goal c.args.rule c.args.node c.args.link (omega arith) e), omega arith, omega arith)

pub returns-then-is_left : goal.returns-then-is_left
returns-then-is_left c =
    left_asks c.args.o c.args.n (chosen c.args.set c.args.words.now) (held c.args.added.now c.args.count) c.args.goal c.args.rule c.args.node c.args.link _ _ _ _ (omega arith) c.is_left.ensures c.if-is_left.true c.tail_of-then-is_left.ensures c.head_of-then-is_left.ensures c.ask_left.ensures

pub returns : goal.returns
returns c =
    left_broken c.args.o c.args.n (chosen c.args.set c.args.words.now) (held c.args.added.now c.args.count) c.args.goal c.args.rule c.args.node c.args.link _ (omega arith) c.is_left.ensures c.if-is_left.false
