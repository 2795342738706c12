use mathlib.Core.Path.{refl, ◌∙◌}
use native.Mathlib.Omega.{arith}
use lib.ListN.{length-set}
use Rattle.mend_loop.proofs.Trying.{more_long, more_inside, node_found, kind_found, put_back}
use Rattle.mend_loop.proofs.try_word.Goals as goal

pub slice_bounds-clashing_node-end : goal.slice_bounds-clashing_node-end
slice_bounds-clashing_node-end c =
    simp length-set (omega (arith, c.requires.place))

pub slice_bounds-clashing_node-end-2 : goal.slice_bounds-clashing_node-end-2
slice_bounds-clashing_node-end-2 c =
    more_long c.args.kept.now c.args.count c.args.word c.requires.place

pub clashing_node-node-requires : goal.clashing_node-node-requires
clashing_node-node-requires c =
    record {
      inside = more_inside c.args.kept.now c.args.count c.args.word c.requires.place c.args.n c.requires.inside c.requires.ends;
      ends = c.requires.ends;
      few = c.requires.few;
      room = c.requires.room;
    }

pub returns-then-n-node : goal.returns-then-n-node
returns-then-n-node c = record {
  clash = omega (arith, node_found c.args.kept.now c.args.count c.args.word c.requires.place c.args.n c.clashing_node-node.ensures.found);
  left = refl;
  past = c.clashing_node-node.ensures.past;
}

pub slice_bounds-clashing_kind-end : goal.slice_bounds-clashing_kind-end
slice_bounds-clashing_kind-end c =
    simp length-set (omega (arith, c.requires.place))

pub slice_bounds-clashing_kind-end-2 : goal.slice_bounds-clashing_kind-end-2
slice_bounds-clashing_kind-end-2 c =
    more_long c.args.kept.now c.args.count c.args.word c.requires.place

pub clashing_kind-kind-requires : goal.clashing_kind-kind-requires
clashing_kind-kind-requires c =
    record {
      inside = more_inside c.args.kept.now c.args.count c.args.word c.requires.place c.args.n c.requires.inside c.requires.ends;
      size = c.requires.size;
      node = c.if-n-node.false;
      few = c.requires.few;
      room = omega (arith, c.requires.room, c.clashing_node-node.auto.marks);
    }

pub returns : goal.returns
returns c = record {
  clash = (
    node_found c.args.kept.now c.args.count c.args.word c.requires.place c.args.n c.clashing_node-node.ensures.found,
    c.if-n-node.false,
    kind_found c.args.kept.now c.args.count c.args.word c.requires.place c.args.n c.clashing_node-node.ensures.found c.args.o c.args.k c.clashing_kind-kind.ensures.found,
  );
  left = put_back c.args.kept.now c.args.count c.args.word c.requires.place;
  past = c.clashing_kind-kind.ensures.past ∙ c.clashing_node-node.ensures.past;
}
