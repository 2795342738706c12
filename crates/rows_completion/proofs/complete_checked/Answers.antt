use mathlib.Core.Path.{ap}
use native.Mathlib.Omega.{arith}
use Rattle.theory.specs.Origins.{chosen}
use Rattle.theory.specs.Rows.{width}
use Rattle.theory.proofs.origins.Statements.{chosen_net}
use Rattle.theory.proofs.rows.Exactly.{rows_small}
use Rattle.rows_completion.proofs.Outcomes.{yes_short, no_short, list_short, list_done}
use Rattle.rows_completion.proofs.complete_checked.Goals as goal

pub overflow_mul-size : goal.overflow_mul-size
overflow_mul-size c =
    omega (arith, rows_small c.args.n (omega (arith, c.requires.net.few, c.requires.size)))

pub returns-then-yeses-size : goal.returns-then-yeses-size
returns-then-yeses-size c =
    yes_short c.args.o c.args.k c.args.n (chosen c.args.set c.args.words.now) c.args.yeses.now c.args.noes.now c.args.list.now (omega arith)

pub returns-then-noes-size : goal.returns-then-noes-size
returns-then-noes-size c =
    no_short c.args.o c.args.k c.args.n (chosen c.args.set c.args.words.now) c.args.yeses.now c.args.noes.now c.args.list.now (omega arith)

pub fill_rows-requires : goal.fill_rows-requires
fill_rows-requires c =
    record {
      net = c.requires.net;
      size = (c.requires.size, ap width c.requires.size);
      room = (omega arith, omega arith);
    }

pub count_words-needed-requires : goal.count_words-needed-requires
count_words-needed-requires c = (
  omega (arith, c.requires.net.few, c.requires.size),
  omega (arith, c.requires.net.few, c.requires.size),
  omega (arith, c.fill_rows.auto.yeses),
  omega (arith, c.fill_rows.auto.noes),
)

pub returns-then-list-needed : goal.returns-then-list-needed
returns-then-list-needed c =
    list_short c.args.o c.args.k c.args.n (chosen c.args.set c.args.words.now) c.args.yeses.now c.args.noes.now c.args.list.now (chosen_net c.args.set c.args.o c.args.k c.args.words.now c.requires.net) c.requires.size
    (omega arith) (omega arith) c.fill_rows.ensures.yeses_after c.fill_rows.ensures.noes_after c.count_words-needed.ensures c.if-list-needed.true

pub write_rows-requires : goal.write_rows-requires
write_rows-requires c = (
  omega (arith, c.requires.net.few, c.requires.size),
  omega (arith, c.requires.net.few, c.requires.size),
  omega (arith, c.fill_rows.auto.yeses),
  omega (arith, c.fill_rows.auto.noes),
  omega (arith, c.count_words-needed.ensures, c.if-list-needed.false),
)

pub returns : goal.returns
returns c =
    list_done c.args.o c.args.k c.args.n (chosen c.args.set c.args.words.now) c.args.yeses.now c.args.noes.now c.args.list.now (chosen_net c.args.set c.args.o c.args.k c.args.words.now c.requires.net) c.requires.size
    (omega arith) (omega arith) c.fill_rows.ensures.yeses_after c.fill_rows.ensures.noes_after c.count_words-needed.ensures c.if-list-needed.false c.write_rows.ensures
