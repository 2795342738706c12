use mathlib.Core.Path.{sym, ◌∙◌}
use Rattle.derivation_lines.proofs.Known.{net_known}
use Rattle.net.proofs.Good.{good_statement}
use Rattle.derivation_check.proofs.check_lines.Goals as goal

pub returns-then-is_bad_statement : goal.returns-then-is_bad_statement
returns-then-is_bad_statement c = simp (sym c.is_bad_statement.ensures ∙ c.if-is_bad_statement.true)

pub is_derivation-requires : goal.is_derivation-requires
is_derivation-requires c =
    record {
      known = net_known c.args.words.now c.requires;
      sign = ((good_statement c.args.o c.args.n c.args.x c.args.y c.args.sign).0 (sym c.is_bad_statement.ensures ∙ c.if-is_bad_statement.false)).signed;
    }

pub returns : goal.returns
returns c =
    simp (sym c.is_bad_statement.ensures ∙ c.if-is_bad_statement.false, sym c.is_derivation.ensures)
