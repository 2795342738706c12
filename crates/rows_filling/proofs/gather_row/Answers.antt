use Prim.Native.Nat.{ℕ, ◌+◌, ◌-◌}
use mathlib.Core.Path.{sym, ap, ◌∙◌}
use native.Mathlib.Omega.{arith}
use Rattle.rows_steps.specs.Steps.{gather_words}
use Rattle.rows_filling.proofs.Gathered.{word_below, words_go, words_end}
use Rattle.rows_filling.proofs.gather_row.Goals as goal

pub loop-i-init : goal.loop-i-init
loop-i-init c =
    ap (λ (j : ℕ). gather_words c.args.w c.args.a 0 j c.args.yeses.now c.args.rows.now c.args.row.now) (omega arith)

pub gather_word-requires : goal.gather_word-requires
gather_word-requires c =
    (omega (arith, c.loop-i.auto.row, c.requires.1), c.requires.2, omega arith, word_below c.args.w c.args.a c.loop-i.i c.args.n c.args.yeses.now (omega arith) c.requires.4)

pub loop-i-preserved : goal.loop-i-preserved
loop-i-preserved c =
    c.loop-i.invariant
    ∙ words_go c.args.w c.args.a c.loop-i.i c.args.yeses.now c.args.rows.now c.loop-i.row (omega arith)
    ∙ ap (gather_words c.args.w c.args.a (c.loop-i.i + 1) (c.args.w - (c.loop-i.i + 1)) c.args.yeses.now c.args.rows.now) (sym c.gather_word.ensures)

pub returns : goal.returns
returns c =
    sym (c.loop-i.invariant ∙ words_end c.args.w c.args.a c.loop-i.i c.args.yeses.now c.args.rows.now c.loop-i.row (omega arith))
