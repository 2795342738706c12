use native.Mathlib.Omega.{arith}
use Rattle.theory.specs.Origins.{chosen}
use Rattle.theory.specs.Completion.{complete}
use Rattle.completion_list.proofs.Listing.{complete_most}
use Rattle.completion.proofs.Outcomes.{complete_unmarked, few_places}
use Rattle.completion.proofs.complete_checked.Goals as goal

pub returns-then-marks-n : goal.returns-then-marks-n
returns-then-marks-n c =
    complete_unmarked (complete c.args.o c.args.k (chosen c.args.set c.args.words.now)) c.args.marks.now c.args.list.now c.args.n c.if-marks-n.true

pub overflow_mul-most : goal.overflow_mul-most
overflow_mul-most c = omega (arith, c.requires.net.few)

pub overflow_mul-most-2 : goal.overflow_mul-most-2
overflow_mul-most-2 c =
    omega (arith, few_places c.args.n c.args.k (omega (arith, c.requires.net.few, c.requires.size)) (omega (arith, c.requires.net.few)))

pub complete_counted-requires : goal.complete_counted-requires
complete_counted-requires c =
    record {
      net = c.requires.net;
      size = c.requires.size;
      room = c.if-marks-n.false;
    }

pub returns-then-list-most : goal.returns-then-list-most
returns-then-list-most c = c.complete_counted.ensures

pub complete_at_once-requires : goal.complete_at_once-requires
complete_at_once-requires c =
    record {
      net = c.requires.net;
      size = c.requires.size;
      room = c.if-marks-n.false;
      fits = omega (arith, c.if-list-most.false, complete_most c.args.o c.args.k (chosen c.args.set c.args.words.now) c.args.n c.requires.size);
    }

pub returns : goal.returns
returns c = c.complete_at_once.ensures
