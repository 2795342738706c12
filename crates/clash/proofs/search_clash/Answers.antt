use mathlib.Core.Path.{sym, ◌∙◌}
use native.Mathlib.Omega.{arith}
use Rattle.theory.specs.Origins.{chosen}
use Rattle.clash.specs.Table.{clash_nodes}
use Rattle.clash.proofs.Search.{read_both, clash_stop, clash_go, clash_end}
use Rattle.clash.proofs.search_clash.Goals as goal

pub returns-in-Some-clause-found : goal.returns-in-Some-clause-found
returns-in-Some-clause-found c =
    let words = chosen c.args.set c.args.words.now in
    clash_stop c.args.o c.args.k words (clash_nodes c.args.o c.args.k) c.loop-x.x c.in-Some.y (omega (arith, c.loop-x-test.true, c.requires.size))
    (c.in-Some.ensures.1 ∙ read_both c.args.o c.args.k c.args.n words c.loop-x.x c.full_scan.new.marks c.requires.size c.full_scan.ensures.nodes)
    (omega (arith, c.in-Some.ensures.0, c.requires.size))
    ∙ sym c.loop-x.invariant.1

pub loop-x-preserved : goal.loop-x-preserved
loop-x-preserved c =
    let words = chosen c.args.set c.args.words.now in
    let left = c.full_scan.ensures in (
      left.past ∙ c.loop-x.invariant.0,
      c.loop-x.invariant.1
          ∙ clash_go c.args.o c.args.k words (clash_nodes c.args.o c.args.k) c.loop-x.x c.args.n (omega (arith, c.loop-x-test.true, c.requires.size))
          (sym c.in_default.ensures ∙ read_both c.args.o c.args.k c.args.n words c.loop-x.x c.full_scan.new.marks c.requires.size left.nodes)
          (omega (arith, c.requires.size)),
    )

pub returns-clause-found : goal.returns-clause-found
returns-clause-found c =
    sym (c.loop-x.invariant.1
    ∙ clash_end c.args.o c.args.k (chosen c.args.set c.args.words.now) (clash_nodes c.args.o c.args.k) c.loop-x.x (omega (arith, c.loop-x-test.false, c.requires.size)))
