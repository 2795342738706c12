use Rattle.ask_text.proofs.Whole.{first_words, words_read}
use Rattle.figures_file.proofs.Whole.{plain_joined, chosen_joined}
use Rattle.figures_file.proofs.count_bodies.Goals as goal

pub slice_bounds-count_plain-end : goal.slice_bounds-count_plain-end
slice_bounds-count_plain-end c =
    words_read _ _ c.read_words.new.words _ c.read_words.ensures

pub returns-then-origins-eq0 : goal.returns-then-origins-eq0
returns-then-origins-eq0 c =
    plain_joined c.args.nodes.now c.args.links.now c.args.origins.now c.u32_at-o.ensures c.u32_at-k.ensures
    (first_words _ _ c.read_words.new.words _ c.read_words.ensures) c.if-origins-eq0.true
    c.count_plain.ensures

pub u32_at-set-requires : goal.u32_at-set-requires
u32_at-set-requires c = c.requires.set c.if-origins-eq0.false

pub slice_bounds-count_net-end : goal.slice_bounds-count_net-end
slice_bounds-count_net-end c =
    words_read _ _ c.read_words.new.words _ c.read_words.ensures

pub returns : goal.returns
returns c =
    chosen_joined c.args.nodes.now c.args.links.now c.args.origins.now c.u32_at-o.ensures c.u32_at-k.ensures
    (first_words _ _ c.read_words.new.words _ c.read_words.ensures) c.if-origins-eq0.false c.u32_at-set.ensures
    c.count_net.ensures
