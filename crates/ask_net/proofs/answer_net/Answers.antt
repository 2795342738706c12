use mathlib.Core.Path.{sym, ◌∙◌}
use Rattle.text_field.proofs.Writing.{wrote_as}
use Rattle.ask_net.proofs.NetText.{text_as}
use Rattle.ask_net.proofs.answer_net.Goals as goal

pub put_net-requires : goal.put_net-requires
put_net-requires c =
    record {
      net = (λ n e. sym c.check_net-checked.ensures ∙ e);
      room = c.requires;
    }

pub returns : goal.returns
returns c =
    wrote_as (text_as c.args.o c.args.k c.args.words.now c.args.set c.check_net-checked.ensures c.args.questions.now) c.put_net.ensures
