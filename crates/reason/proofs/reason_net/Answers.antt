-- Each return is one clause of the table.
use Prim.Native.Nat.{◌+◌}
use mathlib.Core.Path.{sym, ◌∙◌}
use lib.Seq.{length-take-le}
use Rattle.theory.specs.Words.{sign_at}
use Rattle.theory.specs.Origins.{chosen}
use Rattle.theory.proofs.origins.Statements.{chosen_net}
use Rattle.net.proofs.Good.{good_statement}
use Rattle.reason.proofs.NetReason.{net_bad, net_short, front_length, front_leads, net_searched}
use Rattle.reason.proofs.reason_net.Goals as goal

pub returns-then-is_bad_statement : goal.returns-then-is_bad_statement
returns-then-is_bad_statement c =
    net_bad c.args.o c.args.n (chosen c.args.set c.args.words.now) c.args.x c.args.y c.args.sign c.args.scratch.now c.args.list.now c.is_bad_statement.ensures c.if-is_bad_statement.true

pub returns-then-scratch-size : goal.returns-then-scratch-size
returns-then-scratch-size c =
    net_short c.args.o c.args.n (chosen c.args.set c.args.words.now) c.args.x c.args.y c.args.sign c.args.scratch.now c.args.list.now c.is_bad_statement.ensures c.if-is_bad_statement.false c.if-scratch-size.true

pub slice_bounds-find_distances-end-2 : goal.slice_bounds-find_distances-end-2
slice_bounds-find_distances-end-2 c =
    sym (length-take-le (c.args.n + c.args.n) c.args.scratch.now c.if-scratch-size.false)

pub find_distances-requires : goal.find_distances-requires
find_distances-requires c =
    let good = ((good_statement c.args.o c.args.n c.args.x c.args.y c.args.sign).0 (sym c.is_bad_statement.ensures ∙ c.if-is_bad_statement.false)).pair in
    record {
      net = c.requires;
      node = good.high;
      room = length-take-le (c.args.n + c.args.n) c.args.scratch.now c.if-scratch-size.false;
    }

pub slice_bounds-write_reason-end-2 : goal.slice_bounds-write_reason-end-2
slice_bounds-write_reason-end-2 c =
    sym (front_length c.args.n (sign_at c.args.sign) (chosen c.args.set c.args.words.now) c.args.y c.args.scratch.now c.find_distances.new.places c.find_distances.ensures)

pub write_reason-requires : goal.write_reason-requires
write_reason-requires c =
    let good = ((good_statement c.args.o c.args.n c.args.x c.args.y c.args.sign).0 (sym c.is_bad_statement.ensures ∙ c.if-is_bad_statement.false)).pair in
    record {
      net = c.requires;
      room = front_length c.args.n (sign_at c.args.sign) (chosen c.args.set c.args.words.now) c.args.y c.args.scratch.now c.find_distances.new.places c.find_distances.ensures;
      leads = front_leads c.args.n (sign_at c.args.sign) (chosen c.args.set c.args.words.now) c.args.y c.args.scratch.now c.find_distances.new.places c.find_distances.ensures (chosen_net c.args.set 0 c.args.n c.args.words.now c.requires) good.high;
      start = good.node;
    }

pub returns : goal.returns
returns c =
    net_searched c.args.o c.args.n (chosen c.args.set c.args.words.now) c.args.x c.args.y c.args.sign c.args.scratch.now c.args.list.now c.is_bad_statement.ensures c.if-is_bad_statement.false c.if-scratch-size.false c.find_distances.new.places c.find_distances.ensures c.write_reason.result c.write_reason.new.list c.write_reason.ensures
