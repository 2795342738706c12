use Rattle.ask_text.proofs.Whole.{first_words, words_read}
use Rattle.why_text.proofs.Parts.{turned_as, plain_joined, chosen_joined}
use Rattle.why_text.proofs.turn_bodies.Goals as goal

pub slice_bounds-check_plain-end : goal.slice_bounds-check_plain-end
slice_bounds-check_plain-end c =
    words_read _ _ c.read_words.new.words _ c.read_words.ensures

pub slice_bounds-turn_net-end : goal.slice_bounds-turn_net-end
slice_bounds-turn_net-end c =
    words_read _ _ c.read_words.new.words _ c.read_words.ensures

pub returns-then-origins-eq0 : goal.returns-then-origins-eq0
returns-then-origins-eq0 c =
    turned_as
    (plain_joined c.args.nodes.now c.args.links.now c.args.questions.now c.args.origins.now c.args.i c.u32_at-o.ensures c.u32_at-k.ensures
    (first_words _ _ c.read_words.new.words _ c.read_words.ensures) c.if-origins-eq0.true c.check_plain-plain.ensures)
    c.turn_net.ensures

pub u32_at-set-requires : goal.u32_at-set-requires
u32_at-set-requires c = c.requires.set c.if-origins-eq0.false

pub slice_bounds-check_net-end : goal.slice_bounds-check_net-end
slice_bounds-check_net-end c =
    words_read _ _ c.read_words.new.words _ c.read_words.ensures

pub slice_bounds-turn_net-end-2 : goal.slice_bounds-turn_net-end-2
slice_bounds-turn_net-end-2 c =
    words_read _ _ c.read_words.new.words _ c.read_words.ensures

pub returns : goal.returns
returns c =
    turned_as
    (chosen_joined c.args.nodes.now c.args.links.now c.args.questions.now c.args.origins.now c.args.i c.u32_at-o.ensures c.u32_at-k.ensures
    (first_words _ _ c.read_words.new.words _ c.read_words.ensures) c.if-origins-eq0.false c.u32_at-set.ensures c.check_net-checked.ensures)
    c.turn_net-2.ensures
