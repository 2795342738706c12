use Rattle.std.proofs.Common.{rules}
-- However the scan answers, what it leaves is that of the definition.
use mathlib.Core.Path.{sym, ap, ◌∙◌}
use Rattle.theory.specs.Origins.{chosen}
use Rattle.theory.proofs.origins.Statements.{chosen_net}
use Rattle.question.proofs.FullScans.{net_inside, count_of, full_left}
use Rattle.question.proofs.full_scan.Goals as goal

pub scan_net-ran-requires : goal.scan_net-ran-requires
scan_net-ran-requires c =
    let net = net_inside c.args.o c.args.k c.args.n c.args.words.now c.requires.size c.requires.net in
    record { inside = net.0; few = net.1 }

pub returns-in-Ok : goal.returns-in-Ok
returns-in-Ok c =
    let t =
    full_left c.args.o c.args.k c.args.n (chosen c.args.set c.args.words.now)
    (chosen_net c.args.set c.args.o c.args.k c.args.words.now c.requires.net) c.requires.size c.args.x c.requires.node c.args.marks.now c.requires.room
    c.in-Ok.ensures in
    record { count = t.0; nodes = t.1.0; past = t.1.1.0; long = t.1.1.1 }

pub returns-in-Err-Spent : goal.returns-in-Err-Spent
returns-in-Err-Spent c =
    let t =
    full_left c.args.o c.args.k c.args.n (chosen c.args.set c.args.words.now)
    (chosen_net c.args.set c.args.o c.args.k c.args.words.now c.requires.net) c.requires.size c.args.x c.requires.node c.args.marks.now c.requires.room
    c.scan_net-ran.ensures in
    let e = sym (ap count_of c.in-Err-Spent.is) ∙ t.0 in
    record { count = search (rules, e); nodes = t.1.0; past = t.1.1.0; long = t.1.1.1 }

pub returns-in-Err-Refused : goal.returns-in-Err-Refused
returns-in-Err-Refused c =
    let t =
    full_left c.args.o c.args.k c.args.n (chosen c.args.set c.args.words.now)
    (chosen_net c.args.set c.args.o c.args.k c.args.words.now c.requires.net) c.requires.size c.args.x c.requires.node c.args.marks.now c.requires.room
    c.scan_net-ran.ensures in
    let e = sym (ap count_of c.in-Err-Refused.is) ∙ t.0 in
    record { count = search (rules, e); nodes = t.1.0; past = t.1.1.0; long = t.1.1.1 }
