use mathlib.Core.Path.{sym, ◌∙◌}
use native.Mathlib.Omega.{arith}
use Rattle.derivation_lines.proofs.Known.{known_at}
use Rattle.explain_line.proofs.Placing.{place_go, place_stop, place_end}
use Rattle.explain_line.proofs.find_link.Goals as goal

pub word_says-requires : goal.word_says-requires
word_says-requires c =
    known_at c.args.words.now c.requires c.loop-i.i (omega arith)

pub returns-then-word_says : goal.returns-then-word_says
returns-then-word_says c =
    let p = place_stop c.args.set c.args.x c.args.y c.args.sign c.args.words.now c.loop-i.i (omega arith) (sym c.word_says.ensures ∙ c.if-word_says.true) in
    record {
      value = omega arith;
      upper_bound = (omega arith, omega (arith, c.requires.few));
    }

pub loop-i-preserved : goal.loop-i-preserved
loop-i-preserved c =
    let p = place_go c.args.set c.args.x c.args.y c.args.sign c.args.words.now c.loop-i.i (omega arith) (sym c.word_says.ensures ∙ c.if-word_says.false) in
    omega arith

pub returns : goal.returns
returns c =
    let p = place_end c.args.set c.args.x c.args.y c.args.sign c.args.words.now c.loop-i.i (omega arith) in
    record {
      value = omega arith;
      upper_bound = (omega arith, omega (arith, c.requires.few));
    }
