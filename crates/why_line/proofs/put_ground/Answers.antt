use Rattle.text_field.proofs.Writing.{wrote_as}
use Rattle.why_line.proofs.Fields.{as_link, as_1, as_2, as_3, as_4, as_5}
use Rattle.why_line.proofs.put_ground.Goals as goal

pub returns-then-rule-eq0 : goal.returns-then-rule-eq0
returns-then-rule-eq0 c =
    wrote_as (as_link c.args.told c.args.words.now c.args.rule c.args.i c.args.j c.requires.some c.if-rule-eq0.true c.origin_at-origin.ensures) c.put_link.ensures

pub returns-then-rule-eq1 : goal.returns-then-rule-eq1
returns-then-rule-eq1 c =
    wrote_as (as_1 c.args.told c.args.words.now c.args.rule c.args.i c.args.j c.requires.some c.if-rule-eq1.true) c.put_bytes.ensures

pub returns-then-rule-eq2 : goal.returns-then-rule-eq2
returns-then-rule-eq2 c =
    wrote_as (as_2 c.args.told c.args.words.now c.args.rule c.args.i c.args.j c.requires.some c.if-rule-eq2.true) c.put_two.ensures

pub returns-then-rule-eq3 : goal.returns-then-rule-eq3
returns-then-rule-eq3 c =
    wrote_as (as_3 c.args.told c.args.words.now c.args.rule c.args.i c.args.j c.requires.some c.if-rule-eq3.true) c.put_named.ensures

pub returns-then-rule-eq4 : goal.returns-then-rule-eq4
returns-then-rule-eq4 c =
    wrote_as (as_4 c.args.told c.args.words.now c.args.rule c.args.i c.args.j c.requires.some c.if-rule-eq4.true) c.put_two-then-rule-eq4.ensures

pub returns : goal.returns
returns c =
    wrote_as (as_5 c.args.told c.args.words.now c.args.rule c.args.i c.args.j c.requires.some c.if-rule-eq0.false c.if-rule-eq1.false c.if-rule-eq2.false c.if-rule-eq3.false c.if-rule-eq4.false) c.put_two-2.ensures
