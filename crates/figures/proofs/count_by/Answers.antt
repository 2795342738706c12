use Rattle.figures.proofs.Outcomes.{counted_net, net_done_lem, net_refused}
use Rattle.figures.proofs.count_by.Goals as goal

pub count_checked-counts-requires : goal.count_checked-counts-requires
count_checked-counts-requires c =
    let e = counted_net c.args.o c.args.k c.args.words.now c.args.set (c.requires c.in-Ok.n c.in-Ok.is) in
    record { net = e.0; size = e.1 }

pub returns-in-Ok : goal.returns-in-Ok
returns-in-Ok c =
    net_done_lem c.args.o c.args.k c.args.words.now c.args.set c.in-Ok.is c.count_checked-counts.ensures

pub returns-in-Err : goal.returns-in-Err
returns-in-Err c =
    net_refused c.args.o c.args.k c.args.words.now c.args.set c.in-Err.is c.refusal_given-reply.ensures
