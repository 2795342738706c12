use Rattle.text_field.proofs.Writing.{wrote_as}
use Rattle.ask_net.proofs.NetText.{net_lines, net_report}
use Rattle.ask_net.proofs.put_net.Goals as goal

pub put_lines-requires : goal.put_lines-requires
put_lines-requires c =
    record {
      net = c.requires.net c.in-Ok.n c.in-Ok.is;
      room = c.requires.room.1;
    }

pub returns-in-Ok : goal.returns-in-Ok
returns-in-Ok c =
    wrote_as (net_lines c.args.o c.args.k c.args.words.now c.args.set c.args.questions.now c.in-Ok.is) c.put_lines.ensures

pub returns-in-Err : goal.returns-in-Err
returns-in-Err c =
    wrote_as (net_report c.args.o c.args.k c.args.words.now c.args.set c.args.questions.now c.in-Err.is c.refusal_given-reply.ensures)
    c.put_refused_net.ensures
