use Rattle.figures.proofs.Rows.{fill_ask, figures_ask, figures_are}
use Rattle.figures.proofs.count_checked.Goals as goal

pub fill_rows-requires : goal.fill_rows-requires
fill_rows-requires c =
    let e = fill_ask c.args.o c.args.k c.args.n c.args.words.now c.args.set c.requires.net c.requires.size in
    record { net = e.0; size = e.1.0; room = e.1.1 }

pub count_figures-requires : goal.count_figures-requires
count_figures-requires c =
    let e = figures_ask c.args.o c.args.k c.args.n c.args.words.now c.args.set c.requires.net c.requires.size c.fill_rows.new.yeses c.fill_rows.new.noes (record { rows = c.fill_rows.ensures.yeses_after }) (record { rows = c.fill_rows.ensures.noes_after }) in
    record { size = e.0; room = e.1.0; objects = e.1.1.0; kinds = e.1.1.1 }

pub returns : goal.returns
returns c =
    figures_are c.args.o c.args.k c.args.n c.args.words.now c.args.set c.requires.net c.requires.size c.fill_rows.new.yeses c.fill_rows.new.noes (record { rows = c.fill_rows.ensures.yeses_after }) (record { rows = c.fill_rows.ensures.noes_after }) c.count_figures.ensures
