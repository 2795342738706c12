use Rattle.theory.specs.Words.{sign_at}
use Rattle.derivation_check_line.proofs.Reading.{no_chain, chain_read}
use Rattle.derivation_check_line.proofs.is_chain.Goals as goal

pub returns-then-n-i : goal.returns-then-n-i
returns-then-n-i c =
    no_chain c.args.o c.args.k c.args.list.now c.args.n c.args.x c.args.y c.args.i c.args.j (sign_at c.args.sign) c.if-n-i.true

pub returns : goal.returns
returns c =
    chain_read c.args.o c.args.k c.args.list.now c.args.n c.args.x c.args.y c.args.i c.args.j c.requires.lines c.if-n-i.false c.head_of-middle.ensures (sign_at c.args.sign)
    c.is_kind.ensures c.is_kind-2.ensures c.is_above-first.ensures c.is_above-second.ensures
