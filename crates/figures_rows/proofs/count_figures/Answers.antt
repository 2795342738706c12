use native.Mathlib.Omega.{arith}
use Rattle.figures_rows.proofs.Going.{pairs_few, objects_ask, kinds_ask, eight}
use Rattle.figures_rows.proofs.count_figures.Goals as goal

pub overflow_mul-o : goal.overflow_mul-o
overflow_mul-o c =
    omega (arith, pairs_few c.args.o c.args.k (omega (arith, c.requires.size.0)) (omega (arith, c.requires.size.0)))

pub count_four-p-requires : goal.count_four-p-requires
count_four-p-requires c =
    objects_ask c.args.o c.args.k c.args.w c.args.yeses.now c.args.noes.now c.requires.size c.requires.room c.requires.objects

pub overflow_mul-k : goal.overflow_mul-k
overflow_mul-k c =
    omega (arith, pairs_few c.args.k c.args.k (omega (arith, c.requires.size.0)) (omega (arith, c.requires.size.0)))

pub count_four-q-requires : goal.count_four-q-requires
count_four-q-requires c =
    kinds_ask c.args.o c.args.k c.args.w c.args.yeses.now c.args.noes.now c.requires.size c.requires.room c.requires.kinds

pub returns : goal.returns
returns c =
    eight c.args.o c.args.k c.args.w c.args.yeses.now c.args.noes.now c.requires.size c.requires.room _ _ c.count_four-p.ensures c.count_four-q.ensures
