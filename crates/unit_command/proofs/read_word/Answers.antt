use Rattle.unit_command.proofs.Reading.{read_clear, read_set, read_link, read_loop, read_end, read_unknown}
use Rattle.unit_command.proofs.read_word.Goals as goal

pub returns-then-op-eq0 : goal.returns-then-op-eq0
returns-then-op-eq0 c = read_clear c.args.n c.args.word c.if-op-eq0.true c.clear_of.ensures

pub returns-then-op-eq1 : goal.returns-then-op-eq1
returns-then-op-eq1 c = read_set c.args.n c.args.word c.if-op-eq1.true c.set_of.ensures

pub returns-then-op-eq2 : goal.returns-then-op-eq2
returns-then-op-eq2 c = read_link c.args.n c.args.word c.if-op-eq2.true c.link_of.ensures

pub returns-then-word-eq-LOOP : goal.returns-then-word-eq-LOOP
returns-then-word-eq-LOOP c =
    read_loop c.args.n c.args.word c.if-op-eq0.false c.if-op-eq1.false c.if-op-eq2.false c.if-word-eq-LOOP.true

pub returns-then-word-eq-END : goal.returns-then-word-eq-END
returns-then-word-eq-END c =
    read_end c.args.n c.args.word c.if-op-eq0.false c.if-op-eq1.false c.if-op-eq2.false c.if-word-eq-LOOP.false c.if-word-eq-END.true

pub returns : goal.returns
returns c =
    read_unknown c.args.n c.args.word c.if-op-eq0.false c.if-op-eq1.false c.if-op-eq2.false c.if-word-eq-LOOP.false c.if-word-eq-END.false
