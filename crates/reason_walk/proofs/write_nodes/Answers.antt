use native.Mathlib.Omega.{arith}
use Rattle.theory.specs.Words.{sign_at}
use Rattle.theory.specs.Reasons.{never}
use Rattle.theory.specs.Origins.{chosen}
use Rattle.reason_search.proofs.Opening.{at_place}
use Rattle.reason_walk.proofs.Walking.{walking_begin, walking_end, found_nearer, walking_go}
use Rattle.reason_walk.proofs.write_nodes.Goals as goal

pub loop-at-init : goal.loop-at-init
loop-at-init c =
    let e = at_place c.args.places.now c.args.x never 0 (omega (arith, c.requires.start.0, c.requires.room)) in
    walking_begin c.args.n (sign_at c.args.sign) (chosen c.args.set c.args.words.now) c.args.places.now c.args.x c.args.list.now c.requires.start.0 (omega (arith, e)) (omega (arith, c.requires.start.1, e)) (omega (arith, c.requires.list, e))

pub node_of-requires : goal.node_of-requires
node_of-requires c = (
  omega (arith, c.requires.net.few),
  (found_nearer c.args.n (sign_at c.args.sign) (chosen c.args.set c.args.words.now) c.args.places.now c.args.x c.args.list.now c.requires.leads c.loop-at.invariant (omega arith) c.next_state-state.ensures).0,
)

pub loop-at-preserved : goal.loop-at-preserved
loop-at-preserved c =
    walking_go c.args.n (sign_at c.args.sign) (chosen c.args.set c.args.words.now) c.args.places.now c.args.x c.args.list.now c.requires.leads c.loop-at.invariant (omega arith)
    c.next_state-state.ensures c.first_part-count.ensures c.node_of.ensures

pub returns : goal.returns
returns c =
    let both = walking_end c.args.n (sign_at c.args.sign) (chosen c.args.set c.args.words.now) c.args.places.now c.args.x c.args.list.now c.requires.leads c.loop-at.invariant (omega arith) in record {
      value = both.0;
      list_after = both.1;
    }
