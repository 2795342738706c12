use Rattle.why_text.proofs.Parts.{net_question, net_refused}
use Rattle.why_text.proofs.turn_net.Goals as goal

pub returns-in-Ok : goal.returns-in-Ok
returns-in-Ok c =
    net_question c.args.told c.args.o c.args.k c.args.words.now c.args.set c.args.questions.now c.args.i c.in-Ok.is c.put_question_at-size.ensures

pub returns-in-Err : goal.returns-in-Err
returns-in-Err c =
    net_refused c.args.told c.args.o c.args.k c.args.words.now c.args.set c.args.questions.now c.args.i c.in-Err.is c.refusal_given-reply.ensures c.put_refused_net-size.ensures
