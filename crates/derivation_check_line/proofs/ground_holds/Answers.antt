use Rattle.derivation_check_line.proofs.Grounds.{by_link, by_itself, by_chain_is, by_turn, by_chain_isnt, by_object, by_none}
use Rattle.derivation_check_line.proofs.ground_holds.Goals as goal

pub returns-then-rule-eq-LINK : goal.returns-then-rule-eq-LINK
returns-then-rule-eq-LINK c =
    by_link c.args.o c.args.k c.args.set c.args.words.now c.args.list.now c.args.n c.args.word c.args.rule c.args.i c.args.j c.if-rule-eq-LINK.true c.is_link.ensures

pub returns-then-rule-eq-RULE_1 : goal.returns-then-rule-eq-RULE_1
returns-then-rule-eq-RULE_1 c =
    by_itself c.args.o c.args.k c.args.set c.args.words.now c.args.list.now c.args.n c.args.word c.args.rule c.args.i c.args.j c.if-rule-eq-RULE_1.true c.tail_of-x.ensures c.head_of-y.ensures c.is_kind.ensures

pub returns-then-rule-eq-RULE_2 : goal.returns-then-rule-eq-RULE_2
returns-then-rule-eq-RULE_2 c =
    by_chain_is c.args.o c.args.k c.args.set c.args.words.now c.args.list.now c.args.n c.args.word c.args.rule c.args.i c.args.j c.if-rule-eq-RULE_2.true c.tail_of-x.ensures c.head_of-y.ensures c.is_chain.ensures

pub returns-then-rule-eq-RULE_3 : goal.returns-then-rule-eq-RULE_3
returns-then-rule-eq-RULE_3 c =
    by_turn c.args.o c.args.k c.args.set c.args.words.now c.args.list.now c.args.n c.args.word c.args.rule c.args.i c.args.j c.if-rule-eq-RULE_3.true c.tail_of-x.ensures c.head_of-y.ensures c.is_kind-then-rule-eq-RULE_3.ensures c.is_kind-then-rule-eq-RULE_3-2.ensures c.is_above.ensures

pub returns-then-rule-eq-RULE_4 : goal.returns-then-rule-eq-RULE_4
returns-then-rule-eq-RULE_4 c =
    by_chain_isnt c.args.o c.args.k c.args.set c.args.words.now c.args.list.now c.args.n c.args.word c.args.rule c.args.i c.args.j c.if-rule-eq-RULE_4.true c.tail_of-x.ensures c.head_of-y.ensures c.is_chain-then-rule-eq-RULE_4.ensures

pub returns-then-rule-eq-RULE_5 : goal.returns-then-rule-eq-RULE_5
returns-then-rule-eq-RULE_5 c =
    by_object c.args.o c.args.k c.args.set c.args.words.now c.args.list.now c.args.n c.args.word c.args.rule c.args.i c.args.j c.if-rule-eq-RULE_5.true c.tail_of-x.ensures c.head_of-y.ensures c.is_lowered.ensures

pub returns : goal.returns
returns c =
    by_none c.args.o c.args.k c.args.set c.args.words.now c.args.list.now c.args.n c.args.word c.args.rule c.args.i c.args.j c.if-rule-eq-LINK.false c.if-rule-eq-RULE_1.false c.if-rule-eq-RULE_2.false c.if-rule-eq-RULE_3.false c.if-rule-eq-RULE_4.false c.if-rule-eq-RULE_5.false
