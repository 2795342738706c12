use mathlib.Core.Path.{refl, sym, ◌∙◌}
use native.Mathlib.Omega.{arith}
use Rattle.net.proofs.NetCheck.{plain_chosen}
use Rattle.text_field.proofs.Writing.{wrote_as}
use Rattle.ask_net.proofs.NetText.{text_as}
use Rattle.ask_net.proofs.answer_plain.Goals as goal

pub put_net-requires : goal.put_net-requires
put_net-requires c =
    record {
      net = (λ n e. (plain_chosen c.args.o c.args.k c.args.words.now (sym c.check_plain-checked.ensures ∙ e) 1 (omega arith) refl).0);
      room = c.requires;
    }

pub returns : goal.returns
returns c =
    wrote_as (text_as c.args.o c.args.k c.args.words.now 1 c.check_plain-checked.ensures c.args.questions.now) c.put_net.ensures
