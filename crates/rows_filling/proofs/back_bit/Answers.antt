use mathlib.Core.Path.{sym, ◌∙◌}
use Rattle.rows_steps.specs.Rows.{put, meets}
use Rattle.rows_word.proofs.Going.{if_true, if_false}
use Rattle.rows_filling.proofs.Backwards.{bit_stays}
use Rattle.rows_filling.proofs.back_bit.Goals as goal

pub returns-then-has_bit : goal.returns-then-has_bit
returns-then-has_bit c =
    bit_stays c.args.a c.args.y c.args.rows.now (meets c.args.b c.args.a c.args.w c.args.yeses.now c.args.rows.now) (sym c.has_bit.ensures ∙ c.if-has_bit.true)

pub returns-then-rows_meet : goal.returns-then-rows_meet
returns-then-rows_meet c =
    if_true (put c.args.a c.args.y c.args.rows.now) c.args.rows.now c.rows_meet.ensures c.if-rows_meet.true c.put_bit.ensures

pub returns-else-rows_meet : goal.returns-else-rows_meet
returns-else-rows_meet c =
    if_false (put c.args.a c.args.y c.args.rows.now) c.args.rows.now c.rows_meet.ensures c.if-rows_meet.false
