-- The two implications of each sign.
use Rattle.satisfies.proofs.Testing.{agree_is, agree_isnt}
use Rattle.satisfies.proofs.agree.Goals as goal

pub returns-then-sign-eq0 : goal.returns-then-sign-eq0
returns-then-sign-eq0 c =
    agree_is c.args.sign c.args.p c.args.q c.if-sign-eq0.true c.has_t.ensures c.has_t-then-sign-eq0.ensures c.has_f.ensures c.has_f-then-sign-eq0.ensures

pub returns : goal.returns
returns c =
    agree_isnt c.args.sign c.args.p c.args.q c.if-sign-eq0.false c.has_t-2.ensures c.has_f-2.ensures c.has_t-3.ensures
    c.has_f-3.ensures
